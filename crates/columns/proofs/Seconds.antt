-- Which columns are second ones, once others went or were filled up; and insertions.
use Rattle.std.proofs.Common.{◌≡◌, ℕ, zero, suc, ◌+◌, ◌-◌, ◌<◌, ◌≤◌, max, true, false, cond, List, [], ◌∷◌, ◌++◌, length, get_or, take, drop, replicate, sym, refl, ap, ◌∙◌, inl, inr, add-one, arith}
use Rattle.std.proofs.lemmas.Bool.{cases_lt, le-leb, lt-leb, both_ways}
use Rattle.std.proofs.lemmas.List.{append-nil, length-append, length-replicate, length-take-le, take-append-le, drop-append-le, drop-take, take-take}
use Rattle.cells.specs.Cells.{Shown, blank_with, plain_blank}
use Rattle.cells.specs.Kinds.{Kind}
use Rattle.rows.specs.Spread.{wide, columns_of}
use Rattle.rows.specs.Columns.{wide_at, inside, padded, between, without, Whole}
use Rattle.rows.specs.Edits.{made_room, parts_wide}
use Rattle.rows.specs.Bounds.{Sized}
use Rattle.columns.specs.Cols.{Last}
use Rattle.columns.proofs.Means.{wide_is, narrow_is}
use Rattle.columns.proofs.Reading.{inside_once, whole_end}

module _ {A : Type 0} where
  wide_past : (n : ℕ) (xs : List (Shown A)) → length xs ≤ n → wide_at n xs ≡ false
  wide_past n [] l = refl
  wide_past zero (c ∷ xs) l = absurd (omega arith)
  wide_past (suc n) (c ∷ xs) l = wide_past n xs (omega arith)

  pub inside_none : (x : ℕ) (xs : List (Shown A)) → x ≡ 0 → inside x xs ≡ false
  inside_none x xs e = rw e

  pub inside_past : (x : ℕ) (xs : List (Shown A)) → length xs < x → inside x xs ≡ false
  inside_past zero xs l = refl
  inside_past (suc n) xs l = wide_past n xs (omega arith)

  -- the next column, as far as columns reach
  pub inside_next : (x y : ℕ) (xs : List (Shown A)) → (x < length xs → y ≡ x + 1) → (length xs ≤ x → length xs < y) → inside y xs ≡ inside (x + 1) xs
  inside_next x y xs f h =
      elim (cases_lt x (length xs)) [
        | inl l ↦ rw (f l)
        | inr l ↦ inside_past y xs (h l) ∙ sym (inside_past (x + 1) xs (omega arith))
      ]

  wide_within : (n : ℕ) (xs : List (Shown A)) → wide_at n xs ≡ true → n < length xs
  wide_within n [] e = let z : ◌≡◌ {A = ℕ} 0 1 = cc in absurd (omega arith)
  wide_within zero (c ∷ xs) e = omega arith
  wide_within (suc n) (c ∷ xs) e = let h = wide_within n xs e in omega arith

  pub inside_within : (x : ℕ) (xs : List (Shown A)) → inside x xs ≡ true → (0 < x) × (x ≤ length xs)
  inside_within zero xs e = let z : ◌≡◌ {A = ℕ} 0 1 = cc in absurd (omega arith)
  inside_within (suc n) xs e = let h = wide_within n xs e in (omega arith, omega arith)

  wide_read : (n : ℕ) (xs : List (Shown A)) (c : Shown A) → n < length xs → c ≡ get_or xs n c → wide_at n xs ≡ wide c
  wide_read n [] c l e = absurd (omega arith)
  wide_read zero (x ∷ xs) c l e = ap wide (sym e)
  wide_read (suc n) (x ∷ xs) c l e = wide_read n xs c (omega arith) e

  pub inside_read : (x : ℕ) (xs : List (Shown A)) (c : Shown A) → 0 < x → x ≤ length xs → c ≡ get_or xs (x - 1) c → inside x xs ≡ wide c
  inside_read zero xs c p l e = absurd (omega arith)
  inside_read (suc n) xs c p l e =
      let k : suc n - 1 ≡ n = omega arith in
      wide_read n xs c (omega arith) (rw k at e)

  wide_blanks : (k n : ℕ) (a : A) → wide_at k (replicate n (blank_with a)) ≡ false
  wide_blanks k zero a = refl
  wide_blanks zero (suc n) a = refl
  wide_blanks (suc k) (suc n) a = wide_blanks k n a

  wide_append : (k n : ℕ) (xs : List (Shown A)) (a : A) → wide_at k (xs ++ replicate n (blank_with a)) ≡ wide_at k xs
  wide_append k n [] a = wide_blanks k n a
  wide_append zero n (c ∷ xs) a = refl
  wide_append (suc k) n (c ∷ xs) a = wide_append k n xs a

  pub inside_padded : (k : Kind A) (x n : ℕ) (xs : List (Shown A)) → inside x (padded k n xs) ≡ inside x xs
  inside_padded k zero n xs = refl
  inside_padded k (suc j) n xs = wide_append j (n - length xs) xs k.blank

  wide_above : (n k : ℕ) (xs : List (Shown A)) → n ≤ k → wide_at k (take n xs ++ drop (suc n) xs) ≡ wide_at (suc k) xs
  wide_above zero k [] l = refl
  wide_above (suc n) k [] l = refl
  wide_above zero k (c ∷ xs) l = refl
  wide_above (suc n) zero (c ∷ xs) l = absurd (omega arith)
  wide_above (suc n) (suc k) (c ∷ xs) l = wide_above n k xs (omega arith)

  wide_below : (n k : ℕ) (xs : List (Shown A)) → k < n → wide_at k (take n xs ++ drop (suc n) xs) ≡ wide_at k xs
  wide_below zero k xs l = absurd (omega arith)
  wide_below (suc n) k [] l = refl
  wide_below (suc n) zero (c ∷ xs) l = refl
  wide_below (suc n) (suc k) (c ∷ xs) l = wide_below n k xs (omega arith)

  pub inside_below : (n x : ℕ) (xs : List (Shown A)) → x ≤ n → inside x (without n xs) ≡ inside x xs
  inside_below n zero xs l = refl
  inside_below n (suc k) xs l = rw add-one (wide_below n k xs (omega arith))

  pub inside_above : (n x : ℕ) (xs : List (Shown A)) → n < x → inside x (without n xs) ≡ inside (x + 1) xs
  inside_above n zero xs l = absurd (omega arith)
  inside_above n (suc k) xs l = rw (add-one n, add-one (suc k)) (wide_above n k xs (omega arith))

  module _ (k : Kind A) (x m : ℕ) (xs : List (Shown A)) where
    pub parts_short : length xs < m → inside x xs ≡ parts_wide k x m xs
    parts_short l = rw (lt-leb m (length xs) l, inside_padded k x x xs)

    pub parts_below : m ≤ length xs → inside (m - 1) xs ≡ false → x < m → inside x xs ≡ parts_wide k x m xs
    parts_below l e h = rw (le-leb m (length xs) l, e, inside_padded k x x (without (m - 1) xs), inside_below (m - 1) x xs (omega arith))

    pub parts_above : 0 < m → m ≤ length xs → inside (m - 1) xs ≡ false → m ≤ x → inside (x + 1) xs ≡ parts_wide k x m xs
    parts_above p l e h = rw (le-leb m (length xs) l, e, inside_padded k x x (without (m - 1) xs), inside_above (m - 1) x xs (omega arith))

  pub length_padded : (k : Kind A) (x : ℕ) (xs : List (Shown A)) → length (padded k x xs) ≡ max x (length xs)
  length_padded k x xs = length-append xs (replicate (x - length xs) (plain_blank k)) ∙ ap (λ n. length xs + n) (length-replicate (x - length xs) (plain_blank k)) ∙ omega arith

  pub padded_within : (k : Kind A) (x : ℕ) (xs : List (Shown A)) → x ≤ length xs → padded k x xs ≡ xs
  padded_within k x xs l = let e : x - length xs ≡ 0 = omega arith in rw (e, append-nil)

  -- the middle moved on by one: the column before the margin went, and the cell came in at x
  pub slid : (k : Kind A) (x m : ℕ) (c : Shown A) (xs : List (Shown A)) → x < m → m ≤ length xs → wide c ≡ false
      → take x xs ++ (take (m - x) (c ∷ drop x xs) ++ drop m xs) ≡ between x c (made_room k x m xs)
  slid k x m c xs l h w =
      let n : ℕ = m - 1 in
      let j : n - x + 1 ≡ m - x = omega arith in
      let i : x + (n - x) ≡ n = omega arith in
      let q : n + 1 ≡ m = omega arith in
      let t : length (take n xs) ≡ n = length-take-le n xs (omega arith) in
      let lt : x ≤ length (take n xs) = omega arith in
      let d : drop x (take n xs) ≡ take (n - x) (drop x xs) = ap (λ v. drop x (take v xs)) (sym i) ∙ drop-take x (n - x) xs in
      let T : List (Shown A) = without n xs in
      let tl : x ≤ length T = omega (arith, length-append (take n xs) (drop (n + 1) xs)) in
      let room : made_room k x m xs ≡ T = ap (λ t. padded k x (cond t (without n xs) xs)) (le-leb m (length xs) h) ∙ padded_within k x T tl in
      let a : take x T ≡ take x xs = take-append-le x (take n xs) (drop (n + 1) xs) lt ∙ take-take x n xs (omega arith) in
      let b : drop x T ≡ take (n - x) (drop x xs) ++ drop m xs =
      drop-append-le x (take n xs) (drop (n + 1) xs) lt ∙ ap (λ v. v ++ drop (n + 1) xs) d ∙ ap (λ v. take (n - x) (drop x xs) ++ drop v xs) q in
      let e : take (m - x) (c ∷ drop x xs) ≡ c ∷ take (n - x) (drop x xs) = ap (λ v. take v (c ∷ drop x xs)) (sym j ∙ add-one (n - x)) in
      let o : columns_of c ≡ c ∷ [] = rw w in
      ap (λ v. take x xs ++ (v ++ drop m xs)) e
      ∙ sym (ap (between x c) room ∙ ap (λ v. v ++ (columns_of c ++ drop x T)) a ∙ ap (λ v. take x xs ++ (v ++ drop x T)) o ∙ ap (λ v. take x xs ++ (c ∷ v)) b)

  pub last_wide : (xs : List (Shown A)) (end m : ℕ) (c : Shown A) → Whole xs → length xs ≡ end + 1 → true ≡ inside end xs → m ≡ end - 1 → c ≡ get_or xs m c → Last xs m c
  last_wide xs zero m c w l e k h = absurd (both_ways true e refl)
  last_wide xs (suc n) m c w l e k h =
      let j : m ≡ n = omega arith in
      let v : wide c ≡ true = sym (wide_read n xs c (omega arith) (rw j at h)) ∙ sym e in
      record { within = omega arith; is = h; starts = rw j (inside_once n xs w (sym e)); ends = let t = wide_is c v in omega arith }

  pub last_narrow : (xs : List (Shown A)) (end m : ℕ) (c : Shown A) → Sized c → Whole xs → length xs ≡ end + 1 → false ≡ inside end xs → m ≡ end → c ≡ get_or xs m c → Last xs m c
  last_narrow xs end m c z w l e j h =
      let k : length xs ≡ suc end = omega arith in
      let v : wide c ≡ false = sym (wide_read end xs c (omega arith) (rw j at h)) ∙ ap (λ n. inside n xs) (sym k) ∙ whole_end xs w in
      record { within = omega arith; is = h; starts = rw j (sym e); ends = let t = narrow_is c z v in omega arith }
