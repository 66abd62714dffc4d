-- Single writes, as the definitions on columns say them.
use Rattle.std.proofs.Common.{◌≡◌, ℕ, zero, suc, ◌+◌, ◌-◌, ◌≤◌, true, false, List, [], ◌∷◌, ◌++◌, length, get_or, take, drop, sym, refl, ap, ◌∙◌, add-one, arith}
use Rattle.std.proofs.lemmas.List.{append_assoc, length-append, length-take-le, take_at, drop_at, drop-drop}
use Rattle.cells.specs.Cells.{Shown, blank_with}
use Rattle.cells.specs.Kinds.{Kind}
use Rattle.rows.specs.Spread.{wide}
use Rattle.rows.specs.Columns.{wide_at, inside, blank_at, blanked, padded, over}
use Rattle.columns.proofs.Means.{wide_is, wide_columns}

module _ {A : Type 0} where
  blank_set : (n : ℕ) (xs : List (Shown A)) (c : Shown A) → wide_at n xs ≡ true → c ≡ get_or xs n c → take n xs ++ (blank_with c.attrs ∷ drop (suc n) xs) ≡ blank_at n xs
  blank_set n [] c w e = let z : ◌≡◌ {A = ℕ} 0 1 = cc in absurd (omega arith)
  blank_set zero (x ∷ xs) c w e = rw (w, e)
  blank_set (suc n) (x ∷ xs) c w e = ap (λ t. x ∷ t) (blank_set n xs c w e)

  blank_same : (n : ℕ) (xs : List (Shown A)) → wide_at n xs ≡ false → xs ≡ blank_at n xs
  blank_same n [] w = refl
  blank_same zero (x ∷ xs) w = rw w
  blank_same (suc n) (x ∷ xs) w = ap (λ t. x ∷ t) (blank_same n xs w)

  pub blanked_set : (x : ℕ) (xs : List (Shown A)) (c : Shown A) → inside x xs ≡ true → c ≡ get_or xs (x - 1) c → take (x - 1) xs ++ (blank_with c.attrs ∷ drop (x - 1 + 1) xs) ≡ blanked x xs
  blanked_set zero xs c w e = let z : ◌≡◌ {A = ℕ} 0 1 = cc in absurd (omega arith)
  blanked_set (suc n) xs c w e =
      let k : suc n - 1 ≡ n = omega arith in
      rw (k, add-one) (blank_set n xs c w (rw k at e))

  pub blanked_same : (x : ℕ) (xs : List (Shown A)) → inside x xs ≡ false → xs ≡ blanked x xs
  blanked_same zero xs w = refl
  blanked_same (suc n) xs w = blank_same n xs w

-- two columns, one after the other
pub write_two : {X : Type 0} (x : ℕ) (c d : X) (xs ys zs : List X) → x ≤ length xs → ys ≡ take x xs ++ (c ∷ drop (x + 1) xs) → zs ≡ take (x + 1) ys ++ (d ∷ drop (x + 1 + 1) ys)
    → zs ≡ take x xs ++ (c ∷ (d ∷ drop (x + 2) xs))
write_two x c d xs ys zs l e f =
    let k : length (take x xs) ≡ x = length-take-le x xs l in
    let p : length (take x xs ++ (c ∷ [])) ≡ x + 1 = simp length-append (omega arith) in
    let q : ys ≡ (take x xs ++ (c ∷ [])) ++ drop (x + 1) xs = e ∙ sym (append_assoc (take x xs) (c ∷ []) (drop (x + 1) xs)) in
    let a : take (x + 1) ys ≡ take x xs ++ (c ∷ []) = ap (take (x + 1)) q ∙ take_at _ _ (x + 1) p in
    let b : drop (x + 1) ys ≡ drop (x + 1) xs = ap (drop (x + 1)) q ∙ drop_at _ _ (x + 1) p in
    let r : drop (x + 1 + 1) ys ≡ drop (x + 2) xs =
    sym (drop-drop 1 (x + 1) ys) ∙ ap (drop 1) b ∙ drop-drop 1 (x + 1) xs ∙ ap (λ j. drop j xs) (let z : x + 1 + 1 ≡ x + 2 = omega arith in z) in
    f ∙ ap (λ v. v ++ (d ∷ drop (x + 1 + 1) ys)) a ∙ ap (λ v. (take x xs ++ (c ∷ [])) ++ (d ∷ v)) r ∙ append_assoc (take x xs) (c ∷ []) (d ∷ drop (x + 2) xs)

module _ {A : Type 0} where
  pub padded_same : (k : Kind A) (m n : ℕ) (xs : List (Shown A)) → m - length xs ≡ n - length xs → padded k m xs ≡ padded k n xs
  padded_same k m n xs e = rw e

  pub over_wide : (x : ℕ) (c : Shown A) (xs zs : List (Shown A)) → wide c ≡ true → zs ≡ take x xs ++ (c ∷ (blank_with c.attrs ∷ drop (x + 2) xs)) → zs ≡ over x c xs
  over_wide x c xs zs w e =
      e ∙ ap (λ n. take x xs ++ (c ∷ (blank_with c.attrs ∷ drop (x + n) xs))) (sym (wide_is c w))
      ∙ ap (λ v. take x xs ++ (v ++ drop (x + c.width) xs)) (sym (wide_columns c w))
