-- What keeps columns whole.
use Rattle.std.proofs.Common.{◌≡◌, ℕ, zero, suc, ◌+◌, ◌-◌, true, false, cond, ◌&&◌, leb, List, [], ◌∷◌, ◌++◌, length, take, drop, replicate, sym, refl, subst, inl, inr}
use Rattle.std.proofs.lemmas.Bool.{cases_Bool, both_ways, or_parts}
use Rattle.cells.specs.Cells.{Shown, blank_with, plain_blank}
use Rattle.cells.specs.Kinds.{Kind}
use Rattle.rows.specs.Spread.{wide, columns_of, spread}
use Rattle.rows.specs.Columns.{shown, Whole, wide_at, inside, blank_at, blanked, padded, without, over, between}
use Rattle.rows.specs.Edits.{made_room, parts_wide}

module _ {A : Type 0} where
  -- what stands behind a column, if that is wide: its hidden one
  abbrev pub Next : Shown A → List (Shown A) → Type 0
  Next c [] = wide c ≡ false
  Next c (d ∷ ds) = wide c ≡ true → d ≡ blank_with c.attrs

  -- the same of every column
  abbrev pub Paired : List (Shown A) → Type 0
  Paired [] = Unit {0}
  Paired (c ∷ cs) = Next c cs × Paired cs

  next_narrow : (c : Shown A) (cs : List (Shown A)) → wide c ≡ false → Next c cs
  next_narrow c [] e = e
  next_narrow c (d ∷ ds) e = λ t. absurd (both_ways (wide c) e t)

  paired_one : (c : Shown A) (cs : List (Shown A)) → Paired cs → Paired (columns_of c ++ cs)
  paired_one c cs h =
      elim (cases_Bool (wide c)) [
        | inl e ↦ rw e (λ _. refl, (next_narrow (blank_with c.attrs) cs refl, h))
        | inr e ↦ rw e (next_narrow c cs e, h)
      ]

  pub paired_spread : (cells : List (Shown A)) → Paired (spread cells)
  paired_spread [] = tt
  paired_spread (c ∷ cs) = paired_one c (spread cs) (paired_spread cs)

  pub paired : (cols : List (Shown A)) → Whole cols → Paired cols
  paired cols w = subst Paired w (paired_spread (shown cols))

  pub whole : (cols : List (Shown A)) → Paired cols → Whole cols
  whole [] h = refl
  whole (c ∷ []) h = rw h.0
  whole (c ∷ (d ∷ ds)) h =
      elim (cases_Bool (wide c)) [
        | inl e ↦ rw (e, h.0 e, whole ds h.1.1)
        | inr e ↦ rw (e, whole (d ∷ ds) h.1)
      ]

  -- the facts of lists of columns that keep them paired
  pub paired_append : (xs ys : List (Shown A)) → Paired xs → Paired ys → Paired (xs ++ ys)
  paired_append [] ys p q = q
  paired_append (c ∷ []) ys p q = (next_narrow c ys p.0, q)
  paired_append (c ∷ (d ∷ xs)) ys p q = (p.0, paired_append (d ∷ xs) ys p.1 q)

  pub paired_drop : (n : ℕ) (xs : List (Shown A)) → Paired xs → Paired (drop n xs)
  paired_drop zero xs p = p
  paired_drop (suc n) [] p = tt
  paired_drop (suc n) (c ∷ xs) p = paired_drop n xs p.1

  pub paired_take : (n : ℕ) (xs : List (Shown A)) → inside n xs ≡ false → Paired xs → Paired (take n xs)
  paired_take zero xs e p = tt
  paired_take (suc n) [] e p = tt
  paired_take (suc zero) (c ∷ xs) e p = (e, tt)
  paired_take (suc (suc n)) (c ∷ []) e p = p
  paired_take (suc (suc n)) (c ∷ (d ∷ xs)) e p = (p.0, paired_take (suc n) (d ∷ xs) e p.1)

  blank_narrow : (c : Shown A) → wide (cond (wide c) (blank_with c.attrs) c) ≡ false
  blank_narrow c = elim (cases_Bool (wide c)) [ inl e ↦ rw e | inr e ↦ rw (e, e) ]

  paired_blank : (n : ℕ) (xs : List (Shown A)) → Paired xs → Paired (blank_at n xs)
  paired_blank n [] p = tt
  paired_blank zero (c ∷ cs) p = (next_narrow (cond (wide c) (blank_with c.attrs) c) cs (blank_narrow c), p.1)
  paired_blank (suc n) (c ∷ []) p = p
  paired_blank (suc zero) (c ∷ (d ∷ ds)) p = ((λ e. rw (p.0 e)), paired_blank zero (d ∷ ds) p.1)
  paired_blank (suc (suc n)) (c ∷ (d ∷ ds)) p = (p.0, paired_blank (suc n) (d ∷ ds) p.1)

  narrow_blank : (n : ℕ) (xs : List (Shown A)) → wide_at n (blank_at n xs) ≡ false
  narrow_blank n [] = refl
  narrow_blank zero (c ∷ cs) = blank_narrow c
  narrow_blank (suc n) (c ∷ cs) = narrow_blank n cs

  pub whole_spread : (cells : List (Shown A)) → Whole (spread cells)
  whole_spread cells = whole (spread cells) (paired_spread cells)

  pub whole_append : (xs ys : List (Shown A)) → Whole xs → Whole ys → Whole (xs ++ ys)
  whole_append xs ys p q = whole (xs ++ ys) (paired_append xs ys (paired xs p) (paired ys q))

  pub whole_drop : (n : ℕ) (xs : List (Shown A)) → Whole xs → Whole (drop n xs)
  whole_drop n xs p = whole (drop n xs) (paired_drop n xs (paired xs p))

  pub whole_take : (n : ℕ) (xs : List (Shown A)) → inside n xs ≡ false → Whole xs → Whole (take n xs)
  whole_take n xs e p = whole (take n xs) (paired_take n xs e (paired xs p))

  pub whole_columns : (c : Shown A) → Whole (columns_of c)
  whole_columns c = elim (cases_Bool (wide c)) [ inl e ↦ rw e | inr e ↦ rw e ]

  pub whole_blanks : (n : ℕ) (a : A) → Whole (replicate n (blank_with a))
  whole_blanks zero a = refl
  whole_blanks (suc n) a = rw (whole_blanks n a)

  pub whole_blanked : (x : ℕ) (xs : List (Shown A)) → Whole xs → Whole (blanked x xs)
  whole_blanked zero xs p = p
  whole_blanked (suc n) xs p = whole (blank_at n xs) (paired_blank n xs (paired xs p))

  pub inside_blanked : (x : ℕ) (xs : List (Shown A)) → inside x (blanked x xs) ≡ false
  inside_blanked zero xs = refl
  inside_blanked (suc n) xs = narrow_blank n xs

  -- columns behind whole ones are read on their own
  reads_append : (xs ys : List (Shown A)) → Paired xs → shown (xs ++ ys) ≡ shown xs ++ shown ys
  reads_append [] ys p = refl
  reads_append (c ∷ []) ys p = rw p.0
  reads_append (c ∷ (d ∷ xs)) ys p =
      elim (cases_Bool (wide c)) [
        | inl e ↦ rw (e, reads_append xs ys p.1.1)
        | inr e ↦ rw (e, reads_append (d ∷ xs) ys p.1)
      ]

  pub shown_append : (xs ys : List (Shown A)) → Whole xs → shown (xs ++ ys) ≡ shown xs ++ shown ys
  shown_append xs ys p = reads_append xs ys (paired xs p)

  pub shown_spread : (cells : List (Shown A)) → shown (spread cells) ≡ cells
  shown_spread [] = refl
  shown_spread (c ∷ cs) = elim (cases_Bool (wide c)) [ inl e ↦ rw (e, shown_spread cs) | inr e ↦ rw (e, shown_spread cs) ]

  pub spread_append : (xs ys : List (Shown A)) → spread (xs ++ ys) ≡ spread xs ++ spread ys
  spread_append [] ys = refl
  spread_append (c ∷ xs) ys = elim (cases_Bool (wide c)) [ inl e ↦ rw (e, spread_append xs ys) | inr e ↦ rw (e, spread_append xs ys) ]

  -- the steps of calls

  pub whole_as : {ys xs : List (Shown A)} → ys ≡ xs → Whole xs → Whole ys
  whole_as e w = subst Whole (sym e) w

  pub whole_without : (x : ℕ) (xs : List (Shown A)) → inside x xs ≡ false → Whole xs → Whole (without x xs)
  whole_without x xs e w = whole_append (take x xs) (drop (x + 1) xs) (whole_take x xs e w) (whole_drop (x + 1) xs w)

  pub whole_padded : (k : Kind A) (n : ℕ) (xs : List (Shown A)) → Whole xs → Whole (padded k n xs)
  whole_padded k n xs w = whole_append xs (replicate (n - length xs) (plain_blank k)) w (whole_blanks (n - length xs) k.blank)

  pub whole_over : (x : ℕ) (c : Shown A) (xs : List (Shown A)) → inside x xs ≡ false → Whole xs → Whole (over x c xs)
  whole_over x c xs e w =
      whole_append (take x xs) (columns_of c ++ drop (x + c.width) xs) (whole_take x xs e w)
      (whole_append (columns_of c) (drop (x + c.width) xs) (whole_columns c) (whole_drop (x + c.width) xs w))

  pub whole_between : (x : ℕ) (c : Shown A) (xs : List (Shown A)) → inside x xs ≡ false → Whole xs → Whole (between x c xs)
  whole_between x c xs e w =
      whole_append (take x xs) (columns_of c ++ drop x xs) (whole_take x xs e w)
      (whole_append (columns_of c) (drop x xs) (whole_columns c) (whole_drop x xs w))

  pub whole_room : (k : Kind A) (x m : ℕ) (xs : List (Shown A)) → Whole xs → parts_wide k x m xs ≡ false
      → Whole (made_room k x m xs) × (inside x (made_room k x m xs) ≡ false)
  whole_room k x m xs w e =
      let p = or_parts (leb m (length xs) && inside (m - 1) xs) (inside x (made_room k x m xs)) e in (
        elim (cases_Bool (leb m (length xs))) [
          | inl t ↦ rw t (whole_padded k x (without (m - 1) xs) (whole_without (m - 1) xs (rw t at p.0) w))
          | inr f ↦ rw f (whole_padded k x xs w)
        ],
        p.1,
      )
