-- Questions about a row.
-- within          whether a cell's column lies in a range, which leaves out its end
-- texts_within    the texts, joined, of the cells whose column lies in a range
-- columns_as_str  the call that writes these texts into memory of a size
-- agree           whether columns are equally many, and equal one by one
-- equal_rows      whether two rows have the same change number and length, and equal cells column by column
use Rattle.std.specs.Prelude.{ℕ, Bool, true, false, ◌&&◌, List, [], ◌∷◌, map, filter, ◌==◌, nat_le, nat_lt}
use Rattle.cells.specs.Cells.{Shown, equal}
use Rattle.cells.specs.Kinds.{Kind}
use Rattle.rows.specs.Lists.{joined}
use Rattle.rows.specs.Rows.{State}
use Rattle.rows.specs.Spread.{spread, Placed, placed}
use Rattle.rows.specs.Writing.{Writes, writes}

abbrev pub within : {A : Type 0} → ℕ → ℕ → Placed A → Bool
within start end p = nat_le start p.column && nat_lt p.column end

abbrev pub texts_within : {A : Type 0} → ℕ → ℕ → List (Shown A) → List ℕ
texts_within start end cs = joined (map (λ p. p.cell.text) (filter (within start end) (placed cs)))

abbrev pub columns_as_str : {A : Type 0} → ℕ → ℕ → ℕ → List (Shown A) → Writes ℕ
columns_as_str size start end cs = writes size (texts_within start end cs)

abbrev pub agree : {A : Type 0} → Kind A → List (Shown A) → List (Shown A) → Bool
agree k [] [] = true
agree k [] (d ∷ ds) = false
agree k (c ∷ cs) [] = false
agree k (c ∷ cs) (d ∷ ds) = equal k c d && agree k cs ds

abbrev pub equal_rows : {A : Type 0} → Kind A → State A → State A → Bool
equal_rows k s t = s.number == t.number && agree k (spread s.cells) (spread t.cells)
