-- What a clean text that nothing refuses is like.
use Rattle.std.proofs.Common.{◌≡◌, ℕ, zero, suc, ◌*◌, ◌^◌, ◌<◌, ◌≤◌, Bool, true, false, cond, not, ◌&&◌, ◌||◌, eqb, ◌⊎◌, List, [], ◌∷◌, length, Some, None, Option, sym, refl, ap, ◌∙◌, inl, inr, ⊎_elim, arith}
use lib.Bits.{bit_or}
use Rattle.std.proofs.lemmas.Bool.{false≢true, ltb-false, ne_eqb, eqb-true}
use Rattle.cells.specs.declared.refusal.Refusal.{Refusal}
use Rattle.cells.specs.Cleaning.{unclean, clean, space}
use Rattle.cells.specs.Refusals.{first_of}
use Rattle.cells.specs.Words.{value, word_of, text_of, width_of, has_zero, bad_width, is_space, word_refusals, spelled}
use Rattle.cells.proofs.Laid.{Solid, Bytes, small, laid, topped, widened}

pub nonempty : (t : List ℕ) → unclean t ≡ false → 0 < length t
nonempty [] e = absurd (false≢true (sym e))
nonempty (b ∷ t) e = omega arith

pub solid : (t : List ℕ) → has_zero t ≡ false → Solid t
solid [] e = tt
solid (zero ∷ t) e = absurd (false≢true (sym e))
solid (suc b ∷ t) e = (omega arith, solid t (ap (λ x. x || has_zero t) (sym (ne_eqb (suc b) 0 (λ z. absurd (omega arith)))) ∙ e))

by_clean : (t : List ℕ) (u : Bool) → unclean t ≡ u → unclean (cond u space t) ≡ false
by_clean t true e = refl
by_clean t false e = e

pub clean_is_clean : (t : List ℕ) → unclean (clean t) ≡ false
clean_is_clean t = by_clean t (unclean t) refl

-- where a list of refusals gives none, each of its conditions is false
abbrev pub AllFalse : List (Bool × Refusal) → Type 0
AllFalse [] = Unit {0}
AllFalse (p ∷ ps) = (p.0 ≡ false) × AllFalse ps

unmet : (b : Bool) (why : Refusal) (o : Option Refusal) → cond b (Some why) o ≡ None → (b ≡ false) × (o ≡ None)
unmet true why o e = let z : ◌≡◌ {A = ℕ} 0 1 = cc in absurd (omega arith)
unmet false why o e = (refl, e)

pub none_fits : (ps : List (Bool × Refusal)) → first_of ps ≡ None → AllFalse ps
none_fits [] e = tt
none_fits (p ∷ ps) e = let u = unmet p.0 p.1 (first_of ps) e in (u.0, none_fits ps u.1)

one_or_two : (x y s : Bool) → not (x || (y && not s)) ≡ false → (x ≡ true) ⊎ (y ≡ true)
one_or_two true y s e = inl refl
one_or_two false true s e = inr refl
one_or_two false false s e = absurd (false≢true (sym e))

-- what the word of such a text spells
pub record Packed (t : List ℕ) (width w : ℕ) : Type 0 where
  pub spells : spelled w ≡ record { text = t; width = width }
  pub is_laid : word_of (text_of w) (width_of w) ≡ w
  pub is_clean : unclean (text_of w) ≡ false
  pub is_narrow : bad_width (text_of w) (width_of w) ≡ false

with_texts : (t : List ℕ) (width w : ℕ) → unclean t ≡ false → bad_width t width ≡ false → text_of w ≡ t → width_of w ≡ width → word_of (text_of w) (width_of w) ≡ w → Packed t width w
with_texts t width w u n p q l = record {
  spells = λ i. record { text = p i; width = q i };
  is_laid = l;
  is_clean = ap unclean p ∙ u;
  is_narrow = ap (λ (x : List ℕ). bad_width x (width_of w)) p ∙ ap (bad_width t) q ∙ n;
}

pub packs : (t : List ℕ) (width v w : ℕ) → unclean t ≡ false → first_of (word_refusals t width) ≡ None → Bytes t → v ≡ value t
    → ((width ≡ 2) × (w ≡ bit_or (bit_or 0x8000_0000_0000_0000 v) 0x4000_0000_0000_0000)) ⊎ ((width ≡ 2 → ⊥) × (w ≡ bit_or 0x8000_0000_0000_0000 v))
    → Packed t width w
packs t width v w u e f d way =
    let a = none_fits (word_refusals t width) e in
    let n : bad_width t width ≡ false = a.1.1.0 in
    let l : length t ≤ 7 = ltb-false 7 (length t) a.1.0 in
    let s = solid t a.0 in
    let h = nonempty t u in
    let k : value t < 2 ^ (8 * 7) = small t 7 l f in
    let m : v < 2 ^ 56 = omega arith in
    ⊎_elim
    (λ (x : (width ≡ 2) × (w ≡ bit_or (bit_or 0x8000_0000_0000_0000 v) 0x4000_0000_0000_0000)).
    let y = widened v m in
    let r = laid t 1 h l s f (omega arith) w (omega (arith, x.1)) in
    with_texts t width w u n r.0 (r.1 ∙ omega (arith, x.0)) r.2)
    (λ (x : (width ≡ 2 → ⊥) × (w ≡ bit_or 0x8000_0000_0000_0000 v)).
    let y = topped v m in
    let r = laid t 0 h l s f (omega arith) w (omega (arith, x.1)) in
    let one : width ≡ 1 =
    ⊎_elim (λ z. eqb-true width 1 z) (λ z. absurd (x.0 (eqb-true width 2 z))) (one_or_two (eqb width 1) (eqb width 2) (is_space t) n) in
    with_texts t width w u n r.0 (r.1 ∙ omega arith) r.2)
    way
