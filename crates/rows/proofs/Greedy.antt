-- The greedy cut takes as many cells as fit, so no cutting has fewer rows and the rule for a new row leaves one cutting.
use Rattle.std.proofs.Common.{◌≡◌, ℕ, zero, suc, ◌+◌, ◌-◌, ◌<◌, ◌≤◌, ◌⊎◌, List, [], ◌∷◌, ◌++◌, length, take, drop, sym, refl, ap, ◌∙◌, inl, inr, ⊎_elim, arith, length-append, length-drop, take-add}
use Rattle.std.specs.List.{AllByRecursion}
use lib.Seq.{drop-nil, drop-append-add, take-append_seam}
use Rattle.std.proofs.lemmas.List.{drop-drop, drop-take}
use Rattle.std.proofs.lemmas.Bool.{cases_lt, le-leb, lt-leb}
use Rattle.cells.specs.Cells.{Shown}
use Rattle.rows.specs.Cuttings.{Fits, FitsOrOne}
use Rattle.rows.specs.Lists.{span, joined}
use Rattle.rows.specs.Wraps.{Proper, rows_of, fitting, greedy}
use Rattle.rows.proofs.Lengths.{span_drop_le}
use Rattle.rows.proofs.CuttingUp.{next_row}

module _ {A : Type 0} where
  one_fits : (w : ℕ) (c : Shown A) (cs : List (Shown A)) → c.width ≤ w → fitting w (c ∷ cs) ≡ suc (fitting (w - c.width) cs)
  one_fits w c cs h = rw (le-leb c.width w h)

  none_fits : (w : ℕ) (c : Shown A) (cs : List (Shown A)) → w < c.width → fitting w (c ∷ cs) ≡ 0
  none_fits w c cs h = rw (lt-leb c.width w h)

  fitting_fits : (w : ℕ) (cs : List (Shown A)) → Fits w (take (fitting w cs) cs)
  fitting_fits w [] = omega arith
  fitting_fits w (c ∷ cs) =
      ⊎_elim
      (λ h. rw (none_fits w c cs h) (omega arith))
      (λ h. rw (one_fits w c cs h) (let e = fitting_fits (w - c.width) cs in omega arith))
      (cases_lt w c.width)

  fitting_within : (w : ℕ) (cs : List (Shown A)) → fitting w cs ≤ length cs
  fitting_within w [] = omega arith
  fitting_within w (c ∷ cs) =
      ⊎_elim
      (λ h. rw (none_fits w c cs h) (omega arith))
      (λ h. rw (one_fits w c cs h) (let e = fitting_within (w - c.width) cs in omega arith))
      (cases_lt w c.width)

  fitting_most : (w j : ℕ) (cs : List (Shown A)) → j ≤ length cs → Fits w (take j cs) → j ≤ fitting w cs
  fitting_most w zero cs h f = omega arith
  fitting_most w (suc j) [] h f = absurd (omega arith)
  fitting_most w (suc j) (c ∷ cs) h f =
      let e = one_fits w c cs (omega arith) in
      let m = fitting_most (w - c.width) j cs (omega arith) (omega arith) in
      omega arith

  pub greedy_some : (w : ℕ) (cs : List (Shown A)) → 0 < greedy w cs
  greedy_some w cs = omega arith

  pub greedy_fits : (w : ℕ) (cs : List (Shown A)) → 1 < greedy w cs → Fits w (take (greedy w cs) cs)
  greedy_fits w cs h = let e : greedy w cs ≡ fitting w cs = omega arith in rw e (fitting_fits w cs)

  pub greedy_proper : Proper {A = A} greedy
  greedy_proper = record { some = λ w c cs. greedy_some w (c ∷ cs); fits = λ w c cs h. greedy_fits w (c ∷ cs) h }

  pub greedy_within : (w : ℕ) (c : Shown A) (cs : List (Shown A)) → greedy w (c ∷ cs) ≤ length (c ∷ cs)
  greedy_within w c cs = let e = fitting_within w (c ∷ cs) in omega arith

  -- cells from the front that fit, or are one, are no more than the greedy row takes
  pub greedy_most : (w j : ℕ) (cs : List (Shown A)) → j ≤ length cs → Fits w (take j cs) ⊎ (j ≤ 1) → j ≤ greedy w cs
  greedy_most w j cs h way = ⊎_elim (λ f. let m = fitting_most w j cs h f in omega arith) (λ k. omega arith) way

module _ {A : Type 0} (w : ℕ) where
  abbrev count : List (Shown A) → ℕ
  count cs = length (rows_of greedy w cs)

  one_more : (c : Shown A) (cs : List (Shown A)) → count (c ∷ cs) ≡ suc (count (drop (greedy w (c ∷ cs)) (c ∷ cs)))
  one_more c cs = ap length (next_row greedy greedy_proper w c cs)

  drop_at : (m n : ℕ) (cs : List (Shown A)) → m ≡ n → drop m cs ≡ drop n cs
  drop_at m n cs e = ap (λ i. drop i cs) e

  -- a row that begins later in the same cells ends no sooner
  later_row : (m : ℕ) (cs ds : List (Shown A)) → 0 < m → m < greedy w cs → greedy w cs ≤ length cs → drop m cs ≡ ds → greedy w cs - m ≤ greedy w ds
  later_row m cs ds p h k e =
      let g = greedy w cs in
      let t : drop m (take g cs) ≡ take (g - m) ds = ap (λ n. drop m (take n cs)) (omega arith) ∙ drop-take m (g - m) cs ∙ ap (take (g - m)) e in
      let f = greedy_fits w cs (omega arith) in
      let s : span (drop m (take g cs)) ≡ span (take (g - m) ds) = ap span t in
      let d = span_drop_le m (take g cs) in
      let l : length ds ≡ length cs - m = ap length (sym e) ∙ length-drop m cs in
      greedy_most w (g - m) ds (omega arith) (inl (omega arith))

  -- cells from the middle of the first row on take no more rows, if that holds of what is behind that row
  from_row : (c : Shown A) (cs : List (Shown A)) (m : ℕ) → 0 < m → m < greedy w (c ∷ cs)
      → ((i : ℕ) → count (drop i (drop (greedy w (c ∷ cs)) (c ∷ cs))) ≤ count (drop (greedy w (c ∷ cs)) (c ∷ cs)))
      → (ds : List (Shown A)) → drop m (c ∷ cs) ≡ ds → count ds ≤ count (c ∷ cs)
  from_row c cs m s p behind [] e = omega arith
  from_row c cs m s p behind (d ∷ ds) e =
      let g = greedy w (c ∷ cs) in
      let h = greedy w (d ∷ ds) in
      let l = later_row m (c ∷ cs) (d ∷ ds) s p (greedy_within w c cs) e in
      let r : drop h (d ∷ ds) ≡ drop (h - (g - m)) (drop g (c ∷ cs)) =
      ap (drop h) (sym e) ∙ drop-drop h m (c ∷ cs) ∙ drop_at (m + h) (g + (h - (g - m))) (c ∷ cs) (omega arith) ∙ sym (drop-drop (h - (g - m)) g (c ∷ cs)) in
      let b = behind (h - (g - m)) in
      let j : count (drop h (d ∷ ds)) ≡ count (drop (h - (g - m)) (drop g (c ∷ cs))) = ap count r in
      let x = one_more d ds in
      let y = one_more c cs in
      omega arith

  -- the end of cells takes no more rows than all of them
  end_less : (n m : ℕ) (cs : List (Shown A)) → length cs ≤ n → count (drop m cs) ≤ count cs
  end_less n m [] h = rw drop-nil (omega arith)
  end_less n zero (c ∷ cs) h = omega arith
  end_less zero (suc m) (c ∷ cs) h = absurd (omega arith)
  end_less (suc n) (suc m) (c ∷ cs) h =
      let g = greedy w (c ∷ cs) in
      let rest = drop g (c ∷ cs) in
      let some = greedy_some w (c ∷ cs) in
      let l : length rest ≤ n = let e = length-drop g (c ∷ cs) in omega arith in
      ⊎_elim
      (λ p. from_row c cs (suc m) (omega arith) p (λ i. end_less n i rest l) (drop (suc m) (c ∷ cs)) refl)
      (λ p.
      let e : drop (suc m) (c ∷ cs) ≡ drop (suc m - g) rest =
      drop_at (suc m) (g + (suc m - g)) (c ∷ cs) (omega arith) ∙ sym (drop-drop (suc m - g) g (c ∷ cs)) in
      let i = end_less n (suc m - g) rest l in
      let j : count (drop (suc m) (c ∷ cs)) ≡ count (drop (suc m - g) rest) = ap count e in
      let o = one_more c cs in
      omega arith)
      (cases_lt (suc m) g)

  -- a row of a cutting, whole, from the front of the cells that are left
  pub front_row : (row cs : List (Shown A)) → FitsOrOne w row → length row ≤ greedy w (row ++ cs)
  front_row row cs fits =
      let l = length-append row cs in
      let t : span (take (length row) (row ++ cs)) ≡ span row = ap span (take-append_seam row cs) in
      let way : Fits w (take (length row) (row ++ cs)) ⊎ (length row ≤ 1) = ⊎_elim (λ f. inl (omega arith)) (λ o. inr (omega arith)) fits in
      greedy_most w (length row) (row ++ cs) (omega arith) way

  pub fewest : (rows : List (List (Shown A))) → AllByRecursion (λ row. 0 < length row) rows → AllByRecursion (FitsOrOne w) rows → count (joined rows) ≤ length rows
  fewest [] filled fits = omega arith
  fewest ([] ∷ rows) filled fits = absurd (omega (arith, filled.0))
  fewest ((c ∷ row) ∷ rows) filled fits =
      let rest = joined rows in
      let g = greedy w (c ∷ (row ++ rest)) in
      let f = front_row (c ∷ row) rest fits.0 in
      let e : drop g (c ∷ (row ++ rest)) ≡ drop (g - length (c ∷ row)) rest =
      drop_at g (length (c ∷ row) + (g - length (c ∷ row))) (c ∷ (row ++ rest)) (omega arith) ∙ drop-append-add (c ∷ row) rest (g - length (c ∷ row)) in
      let j : count (drop g (c ∷ (row ++ rest))) ≡ count (drop (g - length (c ∷ row)) rest) = ap count e in
      let k = end_less (length rest) (g - length (c ∷ row)) rest (omega arith) in
      let i = fewest rows filled.1 fits.1 in
      let o = one_more c (row ++ rest) in
      omega arith

  -- the cell behind a greedy row would pass the width
  pub passes : (cs : List (Shown A)) → greedy w cs < length cs → w < span (take (greedy w cs) cs ++ take 1 (drop (greedy w cs) cs))
  passes cs h =
      let g = greedy w cs in
      ⊎_elim
      (λ p. p)
      (λ p.
      let e : span (take (g + 1) cs) ≡ span (take g cs ++ take 1 (drop g cs)) = ap span (take-add g 1 cs) in
      let m = greedy_most w (g + 1) cs (omega arith) (inl (omega arith)) in
      absurd (omega arith))
      (cases_lt w (span (take g cs ++ take 1 (drop g cs))))
