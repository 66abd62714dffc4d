-- The columns that a column store holds, a cell in each.
-- columns     what cells mean, column by column
-- room_of     the room of a limit
-- sized_room  the room of a column store by its sizes, of which it has one, its limit
-- Last        the last cell of columns, and the column in which it starts
-- LastOf      the same of an answer, which is none where there are no columns
use Rattle.std.specs.Prelude.{◌≡◌, ℕ, ◌+◌, ◌<◌, false, List, [], ◌∷◌, map, length, slice_index_or, Some, None, Option}
use Rattle.cells.specs.Cells.{Shown, meaning}
use Rattle.cells.specs.declared.cell.Cell.{Cell}
use Rattle.rows.specs.Columns.{inside}
use Rattle.rows.specs.Rows.{Room}
use Rattle.stores.specs.declared.cellat.CellAt.{CellAt}

abbrev pub columns : {A : Type 0} → List (Cell A) → List (Shown A)
columns cells = map meaning cells

abbrev pub room_of : ℕ → Room
room_of limit = record { capacity = limit }

abbrev pub sized_room : List ℕ → Room
sized_room [] = room_of 0
sized_room (limit ∷ sizes) = room_of limit

pub record Last {A : Type 0} (cols : List (Shown A)) (m : ℕ) (c : Shown A) : Type 0 where
  pub within : m < length cols
  pub is : c ≡ slice_index_or cols m c
  pub starts : inside m cols ≡ false
  pub ends : length cols ≡ m + c.width

abbrev pub LastOf : {A : Type 0} → List (Shown A) → Option (CellAt A) → Type 0
LastOf cols None = cols ≡ []
LastOf cols (Some l) = Last cols l.column (meaning l.cell)
