-- The two ways in which cells agree hold exactly where their parts are equal.
use Rattle.std.proofs.Common.{◌≡◌, ℕ, Bool, ◌&&◌, eqb, List, Decides, sym, ap, ◌∙◌, rules}
use Rattle.std.proofs.Math.Bool.{and_assoc}
use Rattle.std.proofs.lemmas.Bool.Decides.{Decides-and, Decides-eqb, Decides-like, same_from_decides}
use Rattle.std.proofs.lemmas.Slice.Eq.{compares_Decides}
use Rattle.cells.specs.Cells.{Shown, equal, alike, Equal}
use Rattle.cells.specs.Kinds.{Kind}
use Rattle.cells.specs.Words.{word_of, text_of, width_of, same_bytes}

pub text_exact : (s t : List ℕ) → Decides (same_bytes s t) (s ≡ t)
text_exact = compares_Decides same_bytes (search rules)

-- two words are one exactly where their widths and their texts are
one_word_tests : (w v : ℕ) → word_of (text_of w) (width_of w) ≡ w → word_of (text_of v) (width_of v) ≡ v → eqb w v ≡ (eqb (width_of w) (width_of v) && same_bytes (text_of w) (text_of v))
one_word_tests w v l m =
    same_from_decides _ _ (Decides-eqb w v)
    (Decides-like (eqb (width_of w) (width_of v) && same_bytes (text_of w) (text_of v))
    (λ (p : (width_of w ≡ width_of v) × (text_of w ≡ text_of v)). sym l ∙ (λ i. word_of (p.1 i) (p.0 i)) ∙ m)
    (λ (e : w ≡ v). (ap width_of e, ap text_of e))
    (Decides-and (eqb (width_of w) (width_of v)) (same_bytes (text_of w) (text_of v)) (Decides-eqb (width_of w) (width_of v)) (text_exact (text_of w) (text_of v))))

pub one_word : (w v : ℕ) → word_of (text_of w) (width_of w) ≡ w → word_of (text_of v) (width_of v) ≡ v → (z : Bool) → (eqb w v && z) ≡ (eqb (width_of w) (width_of v) && (same_bytes (text_of w) (text_of v) && z))
one_word w v l m z =
    ap (λ x. x && z) (one_word_tests w v l m) ∙ and_assoc (eqb (width_of w) (width_of v)) (same_bytes (text_of w) (text_of v)) z

module _ {A : Type 0} (k : Kind A) where
  kind_exact : (a b : A) → Decides (k.same a b) (a ≡ b)
  kind_exact a b = (k.identical a b, λ e. ap (k.same a) (sym e) ∙ k.reflexive a)

  pub equal_exact : (a b : Shown A) → Decides (equal k a b) (Equal a b)
  equal_exact a b =
      Decides-like (equal k a b) (λ p. record { text = p.0; attrs = p.1 }) (λ p. (p.text, p.attrs))
      (Decides-and (same_bytes a.text b.text) (k.same a.attrs b.attrs) (text_exact a.text b.text) (kind_exact a.attrs b.attrs))

  pub alike_exact : (a b : Shown A) → Decides (alike k a b) (a ≡ b)
  alike_exact a b =
      Decides-like (alike k a b)
      (λ (p : (a.width ≡ b.width) × Equal a b). λ i. record { text = p.1.text i; width = p.0 i; attrs = p.1.attrs i })
      (λ (e : a ≡ b). (ap (λ x. x.width) e, record { text = ap (λ x. x.text) e; attrs = ap (λ x. x.attrs) e }))
      (Decides-and (eqb a.width b.width) (equal k a b) (Decides-eqb a.width b.width) (equal_exact a b))
