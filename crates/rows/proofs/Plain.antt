-- Spaces and plain blanks.
use Rattle.std.proofs.Common.{◌≡◌, ℕ, Bool, true, false, List, [], ◌∷◌, ◌++◌, length, replicate, Some, None, sym, refl, ap, ◌∙◌, subst, inl, inr, arith}
use Rattle.std.specs.List.{AllByRecursion}
use Rattle.std.proofs.lemmas.Bool.{false≢true, eqb-true, both_ways, and_parts, or_parts, or_from, or_left, or_right, not-false, cases_Bool}
use Rattle.cells.specs.Cells.{Shown, plain_blank, is_plain}
use Rattle.cells.specs.Cleaning.{space}
use Rattle.cells.specs.Kinds.{Kind}
use Rattle.cells.specs.Words.{is_space}
use Rattle.rows.specs.Lists.{last_of}
use Rattle.rows.specs.Trims.{any, up_to_last, not_plain}
use Rattle.rows.specs.Bounds.{Sized}
use Rattle.rows.proofs.Sizes.{Two, two}

pub space_is : (t : List ℕ) → is_space t ≡ true → t ≡ space
space_is [] e = absurd (false≢true e)
space_is (b ∷ []) e = ap (λ n. n ∷ []) (eqb-true b 0x20 e)
space_is (b ∷ (d ∷ t)) e = absurd (false≢true e)

plain_parts : {A : Type 0} (k : Kind A) (c : Shown A) → c.text ≡ space → c.width ≡ 1 → c.attrs ≡ k.blank → c ≡ plain_blank k
plain_parts k c t w a i = record { text = t i; width = w i; attrs = a i }

plain_two : {A : Type 0} (k : Kind A) (c : Shown A) → Two c → is_plain k c ≡ true → c ≡ plain_blank k
plain_two k c (inl w) e =
    let h = and_parts (is_space c.text) (k.same c.attrs k.blank) e in
    plain_parts k c (space_is c.text h.0) w (k.identical c.attrs k.blank h.1)
plain_two k c (inr w) e = absurd (both_ways (is_space c.text) w.1 (and_parts (is_space c.text) (k.same c.attrs k.blank) e).0)

pub plain_is : {A : Type 0} (k : Kind A) (c : Shown A) → Sized c → is_plain k c ≡ true → c ≡ plain_blank k
plain_is k c h e = plain_two k c (two c h) e

module _ {A : Type 0} (k : Kind A) where
  all_plain : (cells : List (Shown A)) → AllByRecursion Sized cells → any (not_plain k) cells ≡ false → cells ≡ replicate (length cells) (plain_blank k)
  all_plain [] h e = refl
  all_plain (c ∷ cs) h e =
      let q = or_parts (not_plain k c) (any (not_plain k) cs) e in
      ap (λ v. v ∷ cs) (plain_is k c h.0 (not-false (is_plain k c) q.0)) ∙ ap (λ vs. plain_blank k ∷ vs) (all_plain cs h.1 q.1)

  pub pruned : (cells : List (Shown A)) → AllByRecursion Sized cells → (n : ℕ) × (cells ≡ up_to_last (not_plain k) cells ++ replicate n (plain_blank k))
  pruned [] h = (0, refl)
  pruned (c ∷ cs) h =
      let r = pruned cs h.1 in
      elim (cases_Bool (any (not_plain k) (c ∷ cs))) [
        | inl t ↦ (r.0, rw t (ap (λ vs. c ∷ vs) r.1))
        | inr f ↦ (length (c ∷ cs), rw f (all_plain (c ∷ cs) h f))
      ]

module _ {X : Type 0} (test : X → Bool) where
  up_none : (xs : List X) → any test xs ≡ false → up_to_last test xs ≡ []
  up_none [] e = refl
  up_none (x ∷ xs) e = rw e

  last_more : (x : X) (xs : List X) → any test xs ≡ true → last_of (x ∷ up_to_last test xs) ≡ last_of (up_to_last test xs)
  last_more x [] e = absurd (false≢true e)
  last_more x (y ∷ ys) e = rw e

  pub last_passes : (xs : List X) (c : X) → last_of (up_to_last test xs) ≡ Some c → test c ≡ true
  last_passes [] c e = let z : ◌≡◌ {A = ℕ} 0 1 = cc in absurd (omega arith)
  last_passes (x ∷ xs) c e =
      elim (cases_Bool (any test xs)) [
        | inl t ↦
            let a : any test (x ∷ xs) ≡ true = or_right (test x) (any test xs) t in
            let f : last_of (x ∷ up_to_last test xs) ≡ Some c = rw a at e in
            last_passes xs c (sym (last_more x xs t) ∙ f)
        | inr f ↦ elim (cases_Bool (test x)) [
          | inl t ↦
              let a : any test (x ∷ xs) ≡ true = or_left (test x) (any test xs) t in
              let g : last_of (x ∷ up_to_last test xs) ≡ Some c = rw a at e in
              let g : Some x ≡ Some c = sym (ap (λ v. last_of (x ∷ v)) (up_none xs f)) ∙ g in
              let q : x ≡ c = cc in
              subst (λ v. test v ≡ true) q t
          | inr u ↦
              let a : any test (x ∷ xs) ≡ false = or_from (test x) (any test xs) u f in
              let g : None ≡ Some c = rw a at e in
              let z : ◌≡◌ {A = ℕ} 0 1 = cc in
              absurd (omega arith)
        ]
      ]
