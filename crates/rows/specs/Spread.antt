-- Shown cells and the columns that they take.
-- wide        whether a cell takes two columns
-- columns_of  the columns of one cell: itself, and behind a wide one its hidden column, a space with the same attributes
-- spread      the columns of cells
-- Placed      a cell with its column
-- further     a placed cell so many columns further right
-- placed      cells, each with its column
use Rattle.std.specs.Prelude.{ℕ, ◌+◌, Bool, cond, List, [], ◌∷◌, ◌++◌, map, ◌==◌}
use Rattle.cells.specs.Cells.{Shown, blank_with}

abbrev pub wide : {A : Type 0} → Shown A → Bool
wide c = c.width == 2

abbrev pub columns_of : {A : Type 0} → Shown A → List (Shown A)
columns_of c = c ∷ cond (wide c) (blank_with c.attrs ∷ []) []

abbrev pub spread : {A : Type 0} → List (Shown A) → List (Shown A)
spread [] = []
spread (c ∷ cs) = columns_of c ++ spread cs

pub record Placed (A : Type 0) : Type 0 where
  pub column : ℕ
  pub cell : Shown A

abbrev pub further : {A : Type 0} → ℕ → Placed A → Placed A
further by p = record { column = by + p.column; cell = p.cell }

abbrev pub placed : {A : Type 0} → List (Shown A) → List (Placed A)
placed [] = []
placed (c ∷ cs) = record { column = 0; cell = c } ∷ map (further c.width) (placed cs)
