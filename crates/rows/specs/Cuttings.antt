-- Cuttings of cells into rows.
-- Cutting      rows that divide cells in order: joined they are the cells, and none is empty
-- Fits         a row's length is at most the width
-- FitsOrOne  a row fits, or is one cell
-- Neighbours   what holds of each of a list and the next
-- Breaks       of rows that each have a cell: a new one begins exactly when the next cell would pass the width in the current one
use Rattle.std.specs.Prelude.{◌≡◌, ℕ, suc, ◌<◌, ◌≤◌, ◌⊎◌, List, [], ◌∷◌, ◌++◌, length, take}
use Rattle.std.specs.List.{AllByRecursion}
use Rattle.cells.specs.Cells.{Shown}
use Rattle.rows.specs.Lists.{span, joined}

pub record Cutting {X : Type 0} (xs : List X) (rows : List (List X)) : Type 0 where
  pub joins : joined rows ≡ xs
  pub filled : AllByRecursion (λ row. 0 < length row) rows

abbrev pub Fits : {A : Type 0} → ℕ → List (Shown A) → Type 0
Fits width row = span row ≤ width

abbrev pub FitsOrOne : {A : Type 0} → ℕ → List (Shown A) → Type 0
FitsOrOne width row = Fits width row ⊎ (length row ≡ 1)

abbrev pub Neighbours : {X : Type 0} → (X → X → Type 0) → List X → Type 0
Neighbours R [] = Unit {0}
Neighbours R (x ∷ []) = Unit {0}
Neighbours R (x ∷ (y ∷ ys)) = R x y × Neighbours R (y ∷ ys)

pub record Breaks {A : Type 0} (width : ℕ) (rows : List (List (Shown A))) : Type 0 where
  -- the first cell of a next row would have passed the width in the row before
  pub begins : Neighbours (λ row next. width < span (row ++ take 1 next)) rows
  -- a cell that is not the first of its row, but behind its first n, has not
  pub goes_on : AllByRecursion (λ row. (n : ℕ) → 0 < n → n < length row → Fits width (take (suc n) row)) rows
