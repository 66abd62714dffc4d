-- Any proper cut: what it makes of cells is a cutting into rows that fit or are one cell, and fuel does not matter.
use Rattle.std.proofs.Common.{◌≡◌, ℕ, zero, suc, ◌<◌, ◌≤◌, List, [], ◌∷◌, ◌++◌, length, take, drop, refl, ap, ◌∙◌, inl, inr, ⊎_elim, arith, length-drop, take-append-drop, length-take}
use Rattle.std.specs.List.{AllByRecursion}
use Rattle.std.proofs.lemmas.Bool.{cases_lt}
use Rattle.cells.specs.Cells.{Shown}
use Rattle.rows.specs.Cuttings.{Cutting, FitsOrOne}
use Rattle.rows.specs.Lists.{joined}
use Rattle.rows.specs.Wraps.{Cut, Proper, cut_up, rows_of}

module _ {A : Type 0} (cut : Cut A) (proper : Proper cut) (w : ℕ) where
  rest_shorter : (c : Shown A) (cs : List (Shown A)) (n : ℕ) → length (c ∷ cs) ≤ suc n → length (drop (cut w (c ∷ cs)) (c ∷ cs)) ≤ n
  rest_shorter c cs n h = let s = proper.some w c cs in let d = length-drop (cut w (c ∷ cs)) (c ∷ cs) in omega arith

  pub fuel_enough : (m n : ℕ) (cs : List (Shown A)) → length cs ≤ m → length cs ≤ n → cut_up cut w m cs ≡ cut_up cut w n cs
  fuel_enough zero zero [] h k = refl
  fuel_enough zero (suc n) [] h k = refl
  fuel_enough (suc m) zero [] h k = refl
  fuel_enough (suc m) (suc n) [] h k = refl
  fuel_enough zero n (c ∷ cs) h k = absurd (omega arith)
  fuel_enough (suc m) zero (c ∷ cs) h k = absurd (omega arith)
  fuel_enough (suc m) (suc n) (c ∷ cs) h k =
      ap (λ rows. take (cut w (c ∷ cs)) (c ∷ cs) ∷ rows) (fuel_enough m n (drop (cut w (c ∷ cs)) (c ∷ cs)) (rest_shorter c cs m h) (rest_shorter c cs n k))

  -- the next row, and what is left cut likewise
  pub next_row : (c : Shown A) (cs : List (Shown A)) → rows_of cut w (c ∷ cs) ≡ take (cut w (c ∷ cs)) (c ∷ cs) ∷ rows_of cut w (drop (cut w (c ∷ cs)) (c ∷ cs))
  next_row c cs =
      let rest = drop (cut w (c ∷ cs)) (c ∷ cs) in
      ap (λ rows. take (cut w (c ∷ cs)) (c ∷ cs) ∷ rows) (fuel_enough (length cs) (length rest) rest (rest_shorter c cs (length cs) (omega arith)) (omega arith))

  joins_back : (n : ℕ) (cs : List (Shown A)) → length cs ≤ n → joined (cut_up cut w n cs) ≡ cs
  joins_back zero [] h = refl
  joins_back (suc n) [] h = refl
  joins_back zero (c ∷ cs) h = absurd (omega arith)
  joins_back (suc n) (c ∷ cs) h =
      ap (λ xs. take (cut w (c ∷ cs)) (c ∷ cs) ++ xs) (joins_back n (drop (cut w (c ∷ cs)) (c ∷ cs)) (rest_shorter c cs n h))
      ∙ take-append-drop (cut w (c ∷ cs)) (c ∷ cs)

  has_cell : (c : Shown A) (cs : List (Shown A)) → 0 < length (take (cut w (c ∷ cs)) (c ∷ cs))
  has_cell c cs = let s = proper.some w c cs in let t = length-take (cut w (c ∷ cs)) (c ∷ cs) in omega arith

  all_filled : (n : ℕ) (cs : List (Shown A)) → AllByRecursion (λ row. 0 < length row) (cut_up cut w n cs)
  all_filled zero cs = tt
  all_filled (suc n) [] = tt
  all_filled (suc n) (c ∷ cs) = (has_cell c cs, all_filled n (drop (cut w (c ∷ cs)) (c ∷ cs)))

  row_fits : (c : Shown A) (cs : List (Shown A)) → FitsOrOne w (take (cut w (c ∷ cs)) (c ∷ cs))
  row_fits c cs =
      let s = proper.some w c cs in
      let t = length-take (cut w (c ∷ cs)) (c ∷ cs) in
      ⊎_elim (λ h. inl (proper.fits w c cs h)) (λ h. inr (omega arith)) (cases_lt 1 (cut w (c ∷ cs)))

  all_fit : (n : ℕ) (cs : List (Shown A)) → AllByRecursion (FitsOrOne w) (cut_up cut w n cs)
  all_fit zero cs = tt
  all_fit (suc n) [] = tt
  all_fit (suc n) (c ∷ cs) = (row_fits c cs, all_fit n (drop (cut w (c ∷ cs)) (c ∷ cs)))

  pub rows_cutting : (cs : List (Shown A)) → Cutting cs (rows_of cut w cs)
  rows_cutting cs = record { joins = joins_back (length cs) cs (omega arith); filled = all_filled (length cs) cs }

  pub rows_fit : (cs : List (Shown A)) → AllByRecursion (FitsOrOne w) (rows_of cut w cs)
  rows_fit cs = all_fit (length cs) cs
