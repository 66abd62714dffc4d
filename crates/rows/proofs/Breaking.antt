-- A new row begins exactly when the current one has a cell and the next would pass the width: the greedy rows do so, and no other cutting does.
use Rattle.std.proofs.Common.{◌≡◌, ℕ, zero, suc, ◌+◌, ◌-◌, ◌<◌, ◌≤◌, List, [], ◌∷◌, ◌++◌, length, take, drop, sym, refl, ap, ◌∙◌, inl, inr, ⊎_elim, arith, length-append, length-drop, take_all, take-take}
use lib.Seq.{take-append-add, take-append-le, take-append_seam, drop-append_seam}
use Rattle.std.specs.List.{AllByRecursion}
use Rattle.std.proofs.lemmas.Bool.{cases_lt}
use Rattle.cells.specs.Cells.{Shown}
use Rattle.rows.specs.Cuttings.{Cutting, Fits, FitsOrOne, Neighbours, Breaks}
use Rattle.rows.specs.Lists.{span, joined}
use Rattle.rows.specs.Wraps.{cut_up, rows_of, greedy}
use Rattle.rows.proofs.Lengths.{span_take_le}
use Rattle.rows.proofs.CuttingUp.{next_row}
use Rattle.rows.proofs.Greedy.{greedy_some, greedy_fits, greedy_proper, greedy_within, front_row, passes}

module _ {X : Type 0} (R : X → X → Type 0) where
  pub neighbours_more : (x : X) (ys : List X) → ((y : X) (zs : List X) → ys ≡ y ∷ zs → R x y) → Neighbours R ys → Neighbours R (x ∷ ys)
  neighbours_more x [] next h = tt
  neighbours_more x (y ∷ ys) next h = (next y ys refl, h)

  neighbours_rest : (x : X) (ys : List X) → Neighbours R (x ∷ ys) → Neighbours R ys
  neighbours_rest x [] h = tt
  neighbours_rest x (y ∷ ys) h = h.1

module _ {A : Type 0} (w : ℕ) where
  -- a row that fits goes on only while it does
  pub goes_on : (row : List (Shown A)) → FitsOrOne w row → (n : ℕ) → 0 < n → n < length row → Fits w (take (suc n) row)
  goes_on row fits n p h =
      ⊎_elim
      (λ f.
      let e = span_take_le (suc n) (length row) row (omega arith) in
      let t : span (take (length row) row) ≡ span row = ap span (take_all (length row) row (omega arith)) in
      omega arith)
      (λ o. absurd (omega arith))
      fits

  first_cell : (n : ℕ) (cs row : List (Shown A)) (rows : List (List (Shown A))) → cut_up greedy w n cs ≡ row ∷ rows → (0 < length cs) × (take 1 row ≡ take 1 cs)
  first_cell zero cs row rows e = let z : ◌≡◌ {A = ℕ} 0 1 = cc in absurd (omega arith)
  first_cell (suc n) [] row rows e = let z : ◌≡◌ {A = ℕ} 0 1 = cc in absurd (omega arith)
  first_cell (suc n) (c ∷ cs) row rows e =
      let r : take (greedy w (c ∷ cs)) (c ∷ cs) ≡ row = cc in
      (omega arith, ap (take 1) (sym r) ∙ take-take 1 (greedy w (c ∷ cs)) (c ∷ cs) (greedy_some w (c ∷ cs)))

  begins : (n : ℕ) (cs : List (Shown A)) → Neighbours (λ row next. w < span (row ++ take 1 next)) (cut_up greedy w n cs)
  begins zero cs = tt
  begins (suc n) [] = tt
  begins (suc n) (c ∷ cs) =
      let g = greedy w (c ∷ cs) in
      neighbours_more (λ (row next : List (Shown A)). w < span (row ++ take 1 next)) (take g (c ∷ cs)) (cut_up greedy w n (drop g (c ∷ cs)))
      (λ row rows e.
      let f = first_cell n (drop g (c ∷ cs)) row rows e in
      let l = length-drop g (c ∷ cs) in
      let p = passes w (c ∷ cs) (omega (arith, f.0)) in
      let s : span (take g (c ∷ cs) ++ take 1 row) ≡ span (take g (c ∷ cs) ++ take 1 (drop g (c ∷ cs))) = ap (λ xs. span (take g (c ∷ cs) ++ xs)) f.1 in
      omega arith)
      (begins n (drop g (c ∷ cs)))

  pub rows_begin : (cs : List (Shown A)) → Neighbours (λ row next. w < span (row ++ take 1 next)) (rows_of greedy w cs)
  rows_begin cs = begins (length cs) cs

  -- a row that goes on only while it fits, fits or is one cell
  fits_whole : (row : List (Shown A)) → 0 < length row → ((n : ℕ) → 0 < n → n < length row → Fits w (take (suc n) row)) → FitsOrOne w row
  fits_whole row some on =
      ⊎_elim
      (λ h.
      let f = on (length row - 1) (omega arith) (omega arith) in
      let e : span (take (suc (length row - 1)) row) ≡ span row = ap span (take_all (suc (length row - 1)) row (omega arith)) in
      inl (omega arith))
      (λ h. inr (omega arith))
      (cases_lt 1 (length row))

  -- the greedy row is no longer than a row behind which a cell would pass the width
  no_longer : (row : List (Shown A)) (rows : List (List (Shown A))) → 0 < length row → AllByRecursion (λ r. 0 < length r) rows
      → Neighbours (λ r next. w < span (r ++ take 1 next)) (row ∷ rows) → greedy w (row ++ joined rows) ≤ length (row ++ joined rows)
      → greedy w (row ++ joined rows) ≤ length row
  no_longer row [] some filled begin within = let l = length-append {A = Shown A} row [] in omega arith
  no_longer row (next ∷ rows) some filled begin within =
      let cs = row ++ (next ++ joined rows) in
      let g = greedy w cs in
      ⊎_elim
      (λ h.
      let f = greedy_fits w cs (omega arith) in
      let m = span_take_le (length row + 1) g cs (omega arith) in
      let e : take (length row + 1) cs ≡ row ++ take 1 next =
      take-append-add row (next ++ joined rows) 1 ∙ ap (λ xs. row ++ xs) (take-append-le 1 next (joined rows) filled.0) in
      let s : span (take (length row + 1) cs) ≡ span (row ++ take 1 next) = ap span e in
      absurd (omega (arith, begin.0)))
      (λ h. h)
      (cases_lt (length row) g)

  -- a cutting by that rule has the greedy rows
  settled : (rows : List (List (Shown A))) → AllByRecursion (λ row. 0 < length row) rows → Neighbours (λ row next. w < span (row ++ take 1 next)) rows
      → AllByRecursion (λ row. (n : ℕ) → 0 < n → n < length row → Fits w (take (suc n) row)) rows → rows ≡ rows_of greedy w (joined rows)
  settled [] filled begin on = refl
  settled ([] ∷ rows) filled begin on = absurd (omega (arith, filled.0))
  settled ((c ∷ row) ∷ rows) filled begin on =
      let rest = joined rows in
      let cs = c ∷ (row ++ rest) in
      let atleast = front_row w (c ∷ row) rest (fits_whole (c ∷ row) filled.0 on.0) in
      let atmost = no_longer (c ∷ row) rows filled.0 filled.1 begin (greedy_within w c (row ++ rest)) in
      let e : greedy w cs ≡ length (c ∷ row) = omega arith in
      let i = settled rows filled.1 (neighbours_rest (λ r next. w < span (r ++ take 1 next)) (c ∷ row) rows begin) on.1 in
      let t : take (greedy w cs) cs ≡ c ∷ row = ap (λ n. take n cs) e ∙ take-append_seam (c ∷ row) rest in
      let d : drop (greedy w cs) cs ≡ rest = ap (λ n. drop n cs) e ∙ drop-append_seam (c ∷ row) rest in
      let n : rows_of greedy w cs ≡ take (greedy w cs) cs ∷ rows_of greedy w (drop (greedy w cs) cs) = next_row greedy greedy_proper w c (row ++ rest) in
      let r : rows_of greedy w (drop (greedy w cs) cs) ≡ rows_of greedy w rest = ap (rows_of greedy w) d in
      sym (n ∙ ap (λ x. x ∷ rows_of greedy w (drop (greedy w cs) cs)) t ∙ ap (λ x. (c ∷ row) ∷ x) (r ∙ sym i))

  pub only_rows : (cs : List (Shown A)) (rows : List (List (Shown A))) → Cutting cs rows → Breaks w rows → rows ≡ rows_of greedy w cs
  only_rows cs rows cut breaks = settled rows cut.filled breaks.begins breaks.goes_on ∙ ap (rows_of greedy w) cut.joins
