-- What a splitter is.
-- columns  how many columns each width takes
-- Splits   which texts are good, how long the first piece of a text is, how wide a piece is; and the laws that these keep
use Rattle.std.specs.Prelude.{◌≡◌, ℕ, ◌<◌, ◌≤◌, min, Bool, true, List, [], ◌++◌, length, take, drop, slice_index}
use Rattle.cells.specs.Cleaning.{space}
use Rattle.splitters.specs.declared.width.Width.{Width}
use Rattle.splitters.specs.declared.width.Width.TheVariants.{Narrow, Wide}

abbrev pub columns : Width → ℕ
columns Narrow = 1
columns Wide = 2

pub record Splits : Type 0 where
  pub good : List ℕ → Bool
  pub first : List ℕ → ℕ
  pub width : List ℕ → Width
  pub empty : good [] ≡ true
  pub blank : good space ≡ true
  pub joined : (s t : List ℕ) → good s ≡ true → good t ≡ true → good (s ++ t) ≡ true
  pub piece : (t : List ℕ) → good t ≡ true → good (take (first t) t) ≡ true
  pub rest : (t : List ℕ) → good t ≡ true → good (drop (first t) t) ≡ true
  pub some : (t : List ℕ) → good t ≡ true → 0 < length t → 0 < first t
  pub within : (s t : List ℕ) → good s ≡ true → good t ≡ true → 0 < length s → first s ≡ min (length s) (first (s ++ t))
  pub nonzero : (t : List ℕ) → good t ≡ true → 2 ≤ first t → (k : ℕ) → k < first t → 0 < slice_index t k
  pub narrow : width space ≡ Narrow
