-- Columns, read back and edited. A column is a shown cell too: what stands there reads as that.
-- shown       the cells that columns show, read back
-- Whole       in these columns each wide cell is followed by its hidden column, and no wide cell is cut off
-- column_of   the column in which the n-th cell starts
-- inside      whether a column is the second one of a wide cell
-- blanked     a wide cell that starts just before column x becomes two blanks with its attributes
-- padded      filled up to n columns with plain blanks
-- without     without column x
-- over        a cell's columns in place of as many from x on
-- between     a cell's columns put in before column x
use Rattle.std.specs.Prelude.{◌≡◌, ℕ, zero, suc, ◌+◌, ◌-◌, Bool, false, cond, List, [], ◌∷◌, ◌++◌, length, take, drop, replicate}
use Rattle.cells.specs.Cells.{Shown, blank_with, plain_blank}
use Rattle.cells.specs.Kinds.{Kind}
use Rattle.rows.specs.Lists.{span}
use Rattle.rows.specs.Spread.{wide, columns_of, spread}

-- the cells that columns show, where the first column may be hidden
abbrev pub reads : {A : Type 0} → Bool → List (Shown A) → List (Shown A)
reads hidden [] = []
reads hidden (c ∷ cs) = cond hidden (reads false cs) (c ∷ reads (wide c) cs)

abbrev pub shown : {A : Type 0} → List (Shown A) → List (Shown A)
shown cols = reads false cols

abbrev pub Whole : {A : Type 0} → List (Shown A) → Type 0
Whole {A} cols = ◌≡◌ {A = List (Shown A)} (spread (shown cols)) cols

abbrev pub column_of : {A : Type 0} → ℕ → List (Shown A) → ℕ
column_of n cells = span (take n cells)

-- whether a wide cell starts in a column
abbrev pub wide_at : {A : Type 0} → ℕ → List (Shown A) → Bool
wide_at n [] = false
wide_at zero (c ∷ cs) = wide c
wide_at (suc n) (c ∷ cs) = wide_at n cs

abbrev pub inside : {A : Type 0} → ℕ → List (Shown A) → Bool
inside zero cols = false
inside (suc x) cols = wide_at x cols

-- the second column of a wide cell reads as a blank with its attributes already
abbrev pub blank_at : {A : Type 0} → ℕ → List (Shown A) → List (Shown A)
blank_at n [] = []
blank_at zero (c ∷ cs) = cond (wide c) (blank_with c.attrs) c ∷ cs
blank_at (suc n) (c ∷ cs) = c ∷ blank_at n cs

abbrev pub blanked : {A : Type 0} → ℕ → List (Shown A) → List (Shown A)
blanked zero cols = cols
blanked (suc x) cols = blank_at x cols

abbrev pub padded : {A : Type 0} → Kind A → ℕ → List (Shown A) → List (Shown A)
padded k n cols = cols ++ replicate (n - length cols) (plain_blank k)

abbrev pub without : {A : Type 0} → ℕ → List (Shown A) → List (Shown A)
without x cols = take x cols ++ drop (x + 1) cols

abbrev pub over : {A : Type 0} → ℕ → Shown A → List (Shown A) → List (Shown A)
over x c cols = take x cols ++ (columns_of c ++ drop (x + c.width) cols)

abbrev pub between : {A : Type 0} → ℕ → Shown A → List (Shown A) → List (Shown A)
between x c cols = take x cols ++ (columns_of c ++ drop x cols)
