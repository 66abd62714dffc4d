-- Columns read one cell after the other, and the last cell.
use Rattle.std.proofs.Common.{◌≡◌, ℕ, zero, suc, ◌+◌, ◌<◌, ◌≤◌, true, false, List, [], ◌∷◌, ◌++◌, length, get_or, take, drop, Some, sym, refl, ap, ◌∙◌, inl, inr, arith}
use Rattle.std.proofs.lemmas.Bool.{cases_Bool, both_ways}
use Rattle.std.proofs.lemmas.List.{drop_more, drop_all, drop-drop, take-append-drop}
use Rattle.std.specs.List.{slice_get}
use Rattle.cells.specs.Cells.{Shown, meaning}
use Rattle.cells.specs.declared.cell.Cell.{Cell}
use Rattle.rows.specs.Spread.{wide, columns_of, spread}
use Rattle.rows.specs.Columns.{reads, shown, Whole, wide_at, inside, over}
use Rattle.rows.specs.Lasts.{on_last}
use Rattle.rows.specs.Packing.{without_last}
use Rattle.rows.specs.Bounds.{Sized}
use Rattle.rows.proofs.Wholes.{Paired, paired, shown_append, spread_append, whole_take}
use Rattle.rows.proofs.Agreement.{on_last_push}
use Rattle.columns.specs.Cols.{columns, Last}
use Rattle.columns.proofs.Means.{sized_cell, wide_is, narrow_is}

without_push : {X : Type 0} (xs : List X) (x : X) → without_last (xs ++ (x ∷ [])) ≡ xs
without_push [] x = refl
without_push (y ∷ []) x = refl
without_push (y ∷ (z ∷ xs)) x = ap (λ v. y ∷ v) (without_push (z ∷ xs) x)

module _ {A : Type 0} where
  hidden : (ys : List (Shown A)) → reads true ys ≡ shown (drop 1 ys)
  hidden [] = refl
  hidden (y ∷ ys) = refl

  read_first : (c : Shown A) (cs : List (Shown A)) → Sized c → shown (c ∷ cs) ≡ c ∷ shown (drop c.width (c ∷ cs))
  read_first c cs s =
      elim (cases_Bool (wide c)) [
        | inl w ↦ ap (λ v. c ∷ reads v cs) w ∙ ap (λ v. c ∷ v) (hidden cs) ∙ ap (λ n. c ∷ shown (drop n (c ∷ cs))) (sym (wide_is c w))
        | inr w ↦ ap (λ v. c ∷ reads v cs) w ∙ ap (λ n. c ∷ shown (drop n (c ∷ cs))) (sym (narrow_is c s w))
      ]

  pub read_next : (xs : List (Shown A)) (i : ℕ) (c : Shown A) → Sized c → i < length xs → c ≡ get_or xs i c → shown (drop i xs) ≡ c ∷ shown (drop (i + c.width) xs)
  read_next xs i c s l e =
      let a : drop i xs ≡ c ∷ drop (i + 1) xs = drop_more xs i c l ∙ ap (λ v. v ∷ drop (i + 1) xs) (sym e) in
      ap shown a ∙ read_first c (drop (i + 1) xs) s ∙ ap (λ v. c ∷ shown (drop c.width v)) (sym a) ∙ ap (λ v. c ∷ shown v) (drop-drop c.width i xs)

  -- the first of the cells that code holds
  pub read_cell : (xs : List (Cell A)) (c : Cell A) → Some c ≡ slice_get xs 0 → shown (columns xs) ≡ meaning c ∷ shown (drop (meaning c).width (columns xs))
  read_cell [] c e = let z : ◌≡◌ {A = ℕ} 0 1 = cc in absurd (omega arith)
  read_cell (x ∷ xs) c e = let h : c ≡ x = cc in rw h (read_first (meaning x) (columns xs) (sized_cell x))

  pub read_end : (xs : List (Shown A)) (i : ℕ) → length xs ≤ i → shown (drop i xs) ≡ []
  read_end xs i l = ap shown (drop_all i xs l)

  -- a wide cell's first column is no second one
  wide_once : (k : ℕ) (xs : List (Shown A)) → Paired xs → wide_at (suc k) xs ≡ true → wide_at k xs ≡ false
  wide_once k [] p e = refl
  wide_once zero (c ∷ []) p e = p.0
  wide_once zero (c ∷ (d ∷ xs)) p e =
      elim (cases_Bool (wide c)) [ inl w ↦ absurd (both_ways (wide d) (ap wide (p.0 w)) e) | inr f ↦ f ]
  wide_once (suc k) (c ∷ xs) p e = wide_once k xs p.1 e

  pub inside_once : (m : ℕ) (xs : List (Shown A)) → Whole xs → inside (suc m) xs ≡ true → inside m xs ≡ false
  inside_once zero xs w e = refl
  inside_once (suc k) xs w e = wide_once k xs (paired xs w) e

  paired_end : (xs : List (Shown A)) → Paired xs → inside (length xs) xs ≡ false
  paired_end [] p = refl
  paired_end (c ∷ []) p = p.0
  paired_end (c ∷ (d ∷ xs)) p = paired_end (d ∷ xs) p.1

  -- no wide cell is cut off at the end
  pub whole_end : (xs : List (Shown A)) → Whole xs → inside (length xs) xs ≡ false
  whole_end xs w = paired_end xs (paired xs w)

  module _ (xs : List (Shown A)) (m : ℕ) (c : Shown A) (s : Sized c) (w : Whole xs) (h : Last xs m c) where
    pub last_front : Whole (take m xs)
    last_front = whole_take m xs h.starts w

    pub last_shown : shown xs ≡ shown (take m xs) ++ (c ∷ [])
    last_shown =
        ap shown (sym (take-append-drop m xs)) ∙ shown_append (take m xs) (drop m xs) last_front
        ∙ ap (λ v. shown (take m xs) ++ v)
        (read_next xs m c s h.within h.is ∙ ap (λ v. c ∷ v) (read_end xs (m + c.width) (let l = h.ends in omega arith)))

    pub last_gone : shown (take m xs) ≡ without_last (shown xs)
    last_gone = sym (ap without_last last_shown ∙ without_push (shown (take m xs)) c)

    -- the last cell changed in place
    pub last_put : (f : Shown A → Shown A) → (f c).width ≡ c.width → over m (f c) xs ≡ spread (on_last f (shown xs))
    last_put f e =
        let z : drop (m + (f c).width) xs ≡ [] = drop_all (m + (f c).width) xs (let l = h.ends in omega arith) in
        ap (λ v. take m xs ++ (columns_of (f c) ++ v)) z ∙ ap (λ v. v ++ (columns_of (f c) ++ [])) (sym last_front)
        ∙ sym (ap (λ v. spread (on_last f v)) last_shown ∙ ap spread (on_last_push f (shown (take m xs)) c) ∙ spread_append (shown (take m xs)) (f c ∷ []))
