-- How many columns cells take.
use Rattle.std.proofs.Common.{◌≡◌, ℕ, zero, suc, ◌+◌, ◌<◌, ◌≤◌, true, false, List, [], ◌∷◌, ◌++◌, map, length, get_or, Some, None, sym, refl, ap, ◌∙◌, inl, inr, add-one, arith}
use Rattle.std.specs.List.{AllByRecursion, slice_get}
use Rattle.std.proofs.lemmas.List.{length-append}
use Rattle.cells.specs.Cells.{Shown, blank_with}
use Rattle.rows.specs.Lists.{span}
use Rattle.rows.specs.Spread.{wide, columns_of, spread, further, placed}
use Rattle.rows.specs.Columns.{shown, Whole, column_of, wide_at, inside}
use Rattle.rows.specs.Bounds.{Sized}
use Rattle.rows.proofs.Sizes.{Two, two}

nth_map : {X Y : Type 0} (f : X → Y) (xs : List X) (n : ℕ) (x : X) → slice_get xs n ≡ Some x → slice_get (map f xs) n ≡ Some (f x)
nth_map f [] n x e = let z : ◌≡◌ {A = ℕ} 0 1 = cc in absurd (omega arith)
nth_map f (y ∷ ys) zero x e = let h : y ≡ x = cc in ap (λ u. Some (f u)) h
nth_map f (y ∷ ys) (suc n) x e = nth_map f ys n x e

none_map : {X Y : Type 0} (f : X → Y) (xs : List X) (n : ℕ) → slice_get xs n ≡ None → slice_get (map f xs) n ≡ None
none_map f [] n e = refl
none_map f (y ∷ ys) zero e = let z : ◌≡◌ {A = ℕ} 0 1 = cc in absurd (omega arith)
none_map f (y ∷ ys) (suc n) e = none_map f ys n e

module _ {A : Type 0} where
  length_two : (c : Shown A) → Two c → length (columns_of c) ≡ c.width
  length_two c (inl e) = rw e
  length_two c (inr e) = rw e.0

  pub length_columns : (c : Shown A) → Sized c → length (columns_of c) ≡ c.width
  length_columns c h = length_two c (two c h)

  pub length_spread : (cells : List (Shown A)) → AllByRecursion Sized cells → length (spread cells) ≡ span cells
  length_spread [] h = refl
  length_spread (c ∷ cs) h =
      length-append (columns_of c) (spread cs) ∙ (let e = length_columns c h.0 in let f = length_spread cs h.1 in omega arith)

  pub span_append : (xs ys : List (Shown A)) → span (xs ++ ys) ≡ span xs + span ys
  span_append [] ys = omega arith
  span_append (c ∷ xs) ys = let e = span_append xs ys in omega arith

  -- whole columns are as many as their cells take
  pub span_shown : (cols : List (Shown A)) → Whole cols → AllByRecursion Sized (shown cols) → span (shown cols) ≡ length cols
  span_shown cols w h = sym (length_spread (shown cols) h) ∙ ap length w

  pub nth_placed : (cells : List (Shown A)) (n : ℕ) (d : Shown A) → n < length cells
      → slice_get (placed cells) n ≡ Some (record { column = column_of n cells; cell = get_or cells n d })
  nth_placed [] n d l = absurd (omega arith)
  nth_placed (c ∷ cs) zero d l = refl
  nth_placed (c ∷ cs) (suc n) d l =
      nth_map (further c.width) (placed cs) n (record { column = column_of n cs; cell = get_or cs n d }) (nth_placed cs n d (omega arith))

  pub none_placed : (cells : List (Shown A)) (n : ℕ) → length cells ≤ n → slice_get (placed cells) n ≡ None
  none_placed [] n l = refl
  none_placed (c ∷ cs) zero l = absurd (omega arith)
  none_placed (c ∷ cs) (suc n) l = none_map (further c.width) (placed cs) n (none_placed cs n (omega arith))

  -- a place behind the columns of one cell
  get_or_behind : (c : Shown A) (xs : List (Shown A)) (n : ℕ) (d : Shown A) → Two c → get_or (columns_of c ++ xs) (c.width + n) d ≡ get_or xs n d
  get_or_behind c xs n d (inl e) = let f : c.width + n ≡ suc n = omega arith in rw (f, e)
  get_or_behind c xs n d (inr e) = let f : c.width + n ≡ suc (suc n) = omega arith in rw (f, e.0)

  pub stands : (cells : List (Shown A)) (n : ℕ) (d : Shown A) → AllByRecursion Sized cells → n < length cells → get_or (spread cells) (column_of n cells) d ≡ get_or cells n d
  stands [] n d h l = absurd (omega arith)
  stands (c ∷ cs) zero d h l = refl
  stands (c ∷ cs) (suc n) d h l = get_or_behind c (spread cs) (column_of n cs) d (two c h.0) ∙ stands cs n d h.1 (omega arith)

  pub hides : (cells : List (Shown A)) (n : ℕ) (d : Shown A) → AllByRecursion Sized cells → n < length cells → wide (get_or cells n d) ≡ true
      → get_or (spread cells) (column_of n cells + 1) d ≡ blank_with (get_or cells n d).attrs
  hides [] n d h l e = absurd (omega arith)
  hides (c ∷ cs) zero d h l e = rw e
  hides (c ∷ cs) (suc n) d h l e =
      let q : column_of (suc n) (c ∷ cs) + 1 ≡ c.width + (column_of n cs + 1) = omega arith in
      ap (λ i. get_or (spread (c ∷ cs)) i d) q ∙ get_or_behind c (spread cs) (column_of n cs + 1) d (two c h.0) ∙ hides cs n d h.1 (omega arith) e

  -- behind a cell's columns no second one stands
  inside_behind : (c : Shown A) (xs : List (Shown A)) (n : ℕ) → Two c → inside n xs ≡ false → inside (c.width + n) (columns_of c ++ xs) ≡ false
  inside_behind c xs zero (inl e) h = let f : c.width + 0 ≡ 1 = omega arith in rw (f, e)
  inside_behind c xs (suc n) (inl e) h = let f : c.width + suc n ≡ suc (suc n) = omega arith in rw (f, e) h
  inside_behind c xs zero (inr e) h = let f : c.width + 0 ≡ 2 = omega arith in rw (f, e.0)
  inside_behind c xs (suc n) (inr e) h = let f : c.width + suc n ≡ suc (suc (suc n)) = omega arith in rw (f, e.0) h

  pub starts : (cells : List (Shown A)) (n : ℕ) → AllByRecursion Sized cells → inside (column_of n cells) (spread cells) ≡ false
  starts [] zero h = refl
  starts [] (suc n) h = refl
  starts (c ∷ cs) zero h = refl
  starts (c ∷ cs) (suc n) h = inside_behind c (spread cs) (column_of n cs) (two c h.0) (starts cs n h.1)

  wide_behind : (c : Shown A) (xs : List (Shown A)) (n : ℕ) → Two c → wide_at (c.width + n) (columns_of c ++ xs) ≡ wide_at n xs
  wide_behind c xs n (inl e) = let f : c.width + n ≡ suc n = omega arith in rw (f, e)
  wide_behind c xs n (inr e) = let f : c.width + n ≡ suc (suc n) = omega arith in rw (f, e.0)

  wide_stands : (cells : List (Shown A)) (n : ℕ) (d : Shown A) → AllByRecursion Sized cells → n < length cells → wide_at (column_of n cells) (spread cells) ≡ wide (get_or cells n d)
  wide_stands [] n d h l = absurd (omega arith)
  wide_stands (c ∷ cs) zero d h l = refl
  wide_stands (c ∷ cs) (suc n) d h l = wide_behind c (spread cs) (column_of n cs) (two c h.0) ∙ wide_stands cs n d h.1 (omega arith)

  pub seconds : (cells : List (Shown A)) (n : ℕ) (d : Shown A) → AllByRecursion Sized cells → n < length cells → inside (column_of n cells + 1) (spread cells) ≡ wide (get_or cells n d)
  seconds cells n d h l = ap (λ i. inside i (spread cells)) (add-one (column_of n cells)) ∙ wide_stands cells n d h l
