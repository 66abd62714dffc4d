-- Steps on columns, one after another.
use Rattle.std.proofs.Common.{◌≡◌, ℕ, zero, suc, ◌+◌, List, [], ◌∷◌, ◌++◌, length, refl, ap, ◌∙◌}
use Rattle.std.proofs.lemmas.List.{length-append}
use Rattle.cells.specs.Cells.{Shown, meaning}
use Rattle.cells.specs.declared.cell.Cell.{Cell}
use Rattle.rows.specs.Spread.{columns_of}
use Rattle.rows.specs.Columns.{blank_at, blanked}
use Rattle.rows.proofs.Spans.{length_columns}
use Rattle.columns.specs.Becoming.{held, Becomes}
use Rattle.columns.specs.declared.cols.Columns.{Columns}

pub untouched : {A : Type 0} (a : Columns A) → Becomes a a (held a)
untouched a = record { row = refl; limit = refl; memory = refl }

module _ {A : Type 0} {a b : Columns A} {xs : List (Shown A)} where
  pub as_well : {ys : List (Shown A)} → Becomes a b xs → xs ≡ ys → Becomes a b ys
  as_well p e = record { row = p.row ∙ e; limit = p.limit; memory = p.memory }

  pub then : {c : Columns A} (f : List (Shown A) → List (Shown A)) → Becomes a b xs → Becomes b c (f (held b)) → Becomes a c (f xs)
  then f p q = record { row = q.row ∙ ap f p.row; limit = q.limit ∙ p.limit; memory = q.memory ∙ p.memory }

-- one more cell takes its width
pub one_more : {A : Type 0} {a b : Columns A} (c : Cell A) → Becomes a b (held a ++ columns_of (meaning c)) → length (held b) ≡ length (held a) + (meaning c).width
one_more {a = a} c p = ap length p.row ∙ length-append (held a) (columns_of (meaning c)) ∙ ap (λ n. length (held a) + n) (length_columns (meaning c) c.text.narrow)

-- how many columns there are after a step
module _ {A : Type 0} where
  length_blank : (n : ℕ) (xs : List (Shown A)) → length (blank_at n xs) ≡ length xs
  length_blank n [] = refl
  length_blank zero (x ∷ xs) = refl
  length_blank (suc n) (x ∷ xs) = ap suc (length_blank n xs)

  pub length_blanked : (x : ℕ) (xs : List (Shown A)) → length (blanked x xs) ≡ length xs
  length_blanked zero xs = refl
  length_blanked (suc n) xs = length_blank n xs
