-- Cells, and the columns that they mean.
use Rattle.std.specs.Prelude.{◌≡◌, ℕ, ◌-◌, true, false, cond, List, [], ◌∷◌, ◌++◌, length, take, drop}
use Rattle.std.proofs.Common.{min, sym, refl, ap, ◌∙◌, inl, inr, arith}
use Rattle.std.proofs.ByRecursion.{All-drop}
use Rattle.std.proofs.lemmas.List.{take-map, drop-map, drop_all, take_rest, map-append, length-map, length-drop}
use Rattle.std.proofs.lemmas.Bool.{cases_lt, eqb-true, eqb-false}
use Rattle.cells.specs.Cells.{Shown, meaning, blank_with}
use Rattle.cells.specs.declared.cell.Cell.{Cell}
use Rattle.rows.specs.Spread.{wide, columns_of}
use Rattle.rows.specs.Columns.{Whole, shown}
use Rattle.rows.specs.Bounds.{Sized}
use Rattle.rows.specs.Lists.{span}
use Rattle.rows.proofs.Kept.{all_shown}
use Rattle.rows.proofs.Sizes.{two, sized_cells}
use Rattle.rows.proofs.Spans.{span_shown}
use Rattle.rows.proofs.Wholes.{whole_drop}
use Rattle.columns.specs.Cols.{columns}
use Rattle.columns.specs.Becoming.{held}
use Rattle.columns.specs.declared.cols.Columns.{Columns}

drop_min : {X : Type 0} (xs : List X) (n k : ℕ) → k ≡ min n (length xs) → drop k xs ≡ drop n xs
drop_min xs n k e =
    elim (cases_lt (length xs) n) [
      | inl l ↦ drop_all k xs (omega arith) ∙ sym (drop_all n xs (omega arith))
      | inr l ↦ let h : k ≡ n = omega arith in rw h
    ]

module _ {A : Type 0} where
  pub sized_cell : (c : Cell A) → Sized (meaning c)
  sized_cell c = c.text.narrow

  pub wide_is : (c : Shown A) → wide c ≡ true → c.width ≡ 2
  wide_is c e = eqb-true c.width 2 e

  pub narrow_is : (c : Shown A) → Sized c → wide c ≡ false → c.width ≡ 1
  narrow_is c s e =
      elim (two c s) [ inl h ↦ h | inr h ↦ absurd (eqb-false c.width 2 e h.0) ]

  pub wide_columns : (c : Shown A) → wide c ≡ true → columns_of c ≡ c ∷ (blank_with c.attrs ∷ [])
  wide_columns c e = ap (λ b. c ∷ cond b (blank_with c.attrs ∷ []) []) e

  pub length_cols : (xs : List (Cell A)) → length (columns xs) ≡ length xs
  length_cols xs = length-map xs meaning

  -- some columns, then others, then what stands from a place on
  pub cols_put : (x n : ℕ) (ys xs zs : List (Cell A)) → columns (take x xs ++ (ys ++ drop n zs)) ≡ take x (columns xs) ++ (columns ys ++ drop n (columns zs))
  cols_put x n ys xs zs = simp (map-append, take-map, drop-map)

  -- the columns from a place on, as far as there are any
  pub cols_from : (xs : List (Cell A)) (n k : ℕ) → k ≡ min n (length xs) → columns (take (length xs - k) (drop k xs)) ≡ drop n (columns xs)
  cols_from xs n k e = ap columns (take_rest xs k ∙ drop_min xs n k e) ∙ sym (drop-map meaning n xs)

  pub span_drop : (idx : ℕ) (s : Columns A) → Whole (held s) → span (shown (drop idx (held s))) ≡ length (held s) - idx
  span_drop idx s w =
      let z = All-drop Sized idx (held s) (sized_cells s.cells.items) in
      span_shown (drop idx (held s)) (whole_drop idx (held s) w) (all_shown Sized (λ a. refl) (drop idx (held s)) z) ∙ length-drop idx (held s)
