-- The flags of wrapped rows alter no width and no count, so what holds of rows by their lengths holds of the flagged ones.
use Rattle.std.proofs.Common.{◌≡◌, ℕ, suc, ◌+◌, ◌<◌, true, List, [], ◌∷◌, ◌++◌, length, take, refl, ap, inl, inr, ⊎_elim, arith}
use Rattle.std.specs.List.{AllByRecursion}
use Rattle.cells.specs.Cells.{Shown}
use Rattle.cells.specs.Kinds.{Kind}
use Rattle.rows.specs.Cuttings.{FitsOrOne, Neighbours}
use Rattle.rows.specs.Lists.{span}
use Rattle.rows.specs.Lasts.{flag_cell, on_last}
use Rattle.rows.specs.Wraps.{flag_ends}
use Rattle.rows.proofs.Spans.{span_append}

module _ {A : Type 0} (k : Kind A) where
  abbrev flag_last : List (Shown A) → List (Shown A)
  flag_last row = on_last (flag_cell k true) row

  pub flag_last_length : (row : List (Shown A)) → length (flag_last row) ≡ length row
  flag_last_length [] = refl
  flag_last_length (c ∷ []) = refl
  flag_last_length (c ∷ (d ∷ cs)) = ap suc (flag_last_length (d ∷ cs))

  pub flag_last_span : (row : List (Shown A)) → span (flag_last row) ≡ span row
  flag_last_span [] = refl
  flag_last_span (c ∷ []) = refl
  flag_last_span (c ∷ (d ∷ cs)) = ap (λ n. c.width + n) (flag_last_span (d ∷ cs))

  flag_last_first : (row : List (Shown A)) → span (take 1 (flag_last row)) ≡ span (take 1 row)
  flag_last_first [] = refl
  flag_last_first (c ∷ []) = refl
  flag_last_first (c ∷ (d ∷ cs)) = refl

  pub flag_ends_count : (rows : List (List (Shown A))) → length (flag_ends k rows) ≡ length rows
  flag_ends_count [] = refl
  flag_ends_count (row ∷ []) = refl
  flag_ends_count (row ∷ (next ∷ rows)) = ap suc (flag_ends_count (next ∷ rows))

  fits_flagged : (w : ℕ) (row : List (Shown A)) → FitsOrOne w row → FitsOrOne w (flag_last row)
  fits_flagged w row fits =
      let s = flag_last_span row in
      let l = flag_last_length row in
      ⊎_elim (λ f. inl (omega arith)) (λ o. inr (omega arith)) fits

  pub fit_flagged : (w : ℕ) (rows : List (List (Shown A))) → AllByRecursion (FitsOrOne w) rows → AllByRecursion (FitsOrOne w) (flag_ends k rows)
  fit_flagged w [] fits = tt
  fit_flagged w (row ∷ []) fits = fits
  fit_flagged w (row ∷ (next ∷ rows)) fits = (fits_flagged w row fits.0, fit_flagged w (next ∷ rows) fits.1)

  passes_flagged : (w : ℕ) (row next after : List (Shown A)) → span (take 1 after) ≡ span (take 1 next) → w < span (row ++ take 1 next) → w < span (flag_last row ++ take 1 after)
  passes_flagged w row next after e h =
      let s = flag_last_span row in
      let a = span_append row (take 1 next) in
      let b = span_append (flag_last row) (take 1 after) in
      omega arith

  pub begin_flagged : (w : ℕ) (rows : List (List (Shown A))) → Neighbours (λ row next. w < span (row ++ take 1 next)) rows
      → Neighbours (λ row next. w < span (row ++ take 1 next)) (flag_ends k rows)
  begin_flagged w [] h = tt
  begin_flagged w (row ∷ []) h = tt
  begin_flagged w (row ∷ (next ∷ [])) h = (passes_flagged w row next next refl h.0, tt)
  begin_flagged w (row ∷ (next ∷ (after ∷ rows))) h =
      (passes_flagged w row next (flag_last next) (flag_last_first next) h.0, begin_flagged w (next ∷ (after ∷ rows)) h.1)
