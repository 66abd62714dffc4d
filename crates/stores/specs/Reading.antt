-- Cells read from a store.
-- found  a cell that was found with its column, by what it means
-- Step   a reader's step: nothing is left, or the cell given and what is left behind it
use Rattle.std.specs.Prelude.{◌≡◌, List, [], ◌∷◌, Some, None, Option}
use Rattle.cells.specs.Cells.{Shown, meaning}
use Rattle.cells.specs.declared.cell.Cell.{Cell}
use Rattle.rows.specs.Spread.{Placed}
use Rattle.stores.specs.declared.cellat.CellAt.{CellAt}

abbrev pub found : {A : Type 0} → Option (CellAt A) → Option (Placed A)
found None = None
found (Some c) = Some (record { column = c.column; cell = meaning c.cell })

abbrev pub Step : {A P : Type 0} → (P → List (Shown A)) → P → Option (Cell A × P) → Type 0
Step left p None = left p ≡ []
Step left p (Some s) = left p ≡ meaning s.0 ∷ left s.1
