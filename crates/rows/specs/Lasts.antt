-- The last cell.
-- flag_cell  a cell with its flag set so
-- on_last    the last of a list changed
use Rattle.std.specs.Prelude.{Bool, List, [], ◌∷◌}
use Rattle.cells.specs.Cells.{Shown}
use Rattle.cells.specs.Kinds.{Kind}

abbrev pub flag_cell : {A : Type 0} → Kind A → Bool → Shown A → Shown A
flag_cell k on c = record { text = c.text; width = c.width; attrs = k.flagged c.attrs on }

abbrev pub on_last : {X : Type 0} → (X → X) → List X → List X
on_last f [] = []
on_last f (x ∷ []) = f x ∷ []
on_last f (x ∷ (y ∷ ys)) = x ∷ on_last f (y ∷ ys)
