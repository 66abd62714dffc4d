-- Cells with their columns, from a column on: what stands where some were passed over.
use Rattle.std.proofs.Common.{◌≡◌, ℕ, suc, ◌+◌, List, [], ◌∷◌, map, refl, ap, ◌∙◌, arith}
use Rattle.std.specs.List.{slice_get}
use Rattle.cells.specs.Cells.{Shown}
use Rattle.rows.specs.Spread.{Placed, further, placed}

module _ {A : Type 0} where
  further_further : (a b : ℕ) (ps : List (Placed A)) → map (further a) (map (further b) ps) ≡ map (further (a + b)) ps
  further_further a b [] = refl
  further_further a b (q ∷ ps) =
      let e : a + (b + q.column) ≡ a + b + q.column = omega arith in
      ap (λ (n : ℕ). record { column = n; cell = q.cell } ∷ map (further a) (map (further b) ps)) e ∙ ap (λ us. further (a + b) q ∷ us) (further_further a b ps)

  pub further_none : (ps : List (Placed A)) → map (further 0) ps ≡ ps
  further_none [] = refl
  further_none (q ∷ ps) =
      let e : 0 + q.column ≡ q.column = omega arith in
      ap (λ (n : ℕ). record { column = n; cell = q.cell } ∷ map (further 0) ps) e ∙ ap (λ us. q ∷ us) (further_none ps)

  pub nth_more : (cs ds : List (Shown A)) (c : Shown A) (col m : ℕ) → cs ≡ c ∷ ds → slice_get (map (further col) (placed cs)) (suc m) ≡ slice_get (map (further (col + c.width)) (placed ds)) m
  nth_more cs ds c col m e = ap (λ u. slice_get (map (further col) (placed u)) (suc m)) e ∙ ap (λ u. slice_get u m) (further_further col c.width (placed ds))
