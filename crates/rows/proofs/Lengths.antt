-- How many columns parts of a row take.
use Rattle.std.proofs.Common.{ℕ, zero, suc, ◌≤◌, List, [], ◌∷◌, take, drop, arith}
use Rattle.cells.specs.Cells.{Shown}
use Rattle.rows.specs.Lists.{span}

module _ {A : Type 0} where
  pub span_take_le : (m n : ℕ) (xs : List (Shown A)) → m ≤ n → span (take m xs) ≤ span (take n xs)
  span_take_le zero n xs h = omega arith
  span_take_le (suc m) zero xs h = absurd (omega arith)
  span_take_le (suc m) (suc n) [] h = omega arith
  span_take_le (suc m) (suc n) (x ∷ xs) h = let e = span_take_le m n xs (omega arith) in omega arith

  pub span_drop_le : (n : ℕ) (xs : List (Shown A)) → span (drop n xs) ≤ span xs
  span_drop_le zero xs = omega arith
  span_drop_le (suc n) [] = omega arith
  span_drop_le (suc n) (x ∷ xs) = let e = span_drop_le n xs in omega arith
