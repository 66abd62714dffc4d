-- A cell of a text: what the text word refuses is what the cell's rule refuses.
use Rattle.std.proofs.Common.{◌≡◌, ℕ, ◌<◌, Bool, true, false, cond, not, ◌==◌, eqb, List, [], ◌∷◌, length, get_or, Some, None, Option, Result, sym, refl, ap, ◌∙◌, arith}
use Rattle.std.proofs.lemmas.Bool.{false≢true, ne_eqb, eq-eqb, eqb-true}
use Rattle.std.proofs.lemmas.Bool.Decides.{nat_tests}
use Rattle.std.proofs.lemmas.List.Recursion.{or_from_places}
use Rattle.cells.specs.Cells.{Shown}
use Rattle.cells.specs.Cleaning.{space, unclean, clean}
use Rattle.cells.specs.Refusals.{verdict, mapped}
use Rattle.cells.specs.Words.{Text, has_zero, is_space, bad_width, made}
use Rattle.cells.specs.declared.refusal.Refusal.{Refusal}
use Rattle.splitters.specs.Graphemes.{cell_width, bad_given, grapheme}
use Rattle.splitters.specs.Splits.{Splits, columns}
use Rattle.splitters.specs.declared.width.Width.{Width}
use Rattle.splitters.specs.declared.width.Width.TheVariants.{Narrow, Wide}

-- ---- cleaning
by_clean : (t : List ℕ) (u : Bool) → unclean t ≡ u → unclean (cond u space t) ≡ false
by_clean t true e = refl
by_clean t false e = e

pub clean_is_clean : (t : List ℕ) → unclean (clean t) ≡ false
clean_is_clean t = by_clean t (unclean t) refl

pub clean_twice : (t : List ℕ) → clean (clean t) ≡ clean t
clean_twice t = ap (λ (u : Bool). cond u space (clean t)) (clean_is_clean t)

good_by : (p : Splits) (t : List ℕ) (u : Bool) → p.good t ≡ true → p.good (cond u space t) ≡ true
good_by p t true g = p.blank
good_by p t false g = g

pub clean_good : (p : Splits) (t : List ℕ) → p.good t ≡ true → p.good (clean t) ≡ true
clean_good p t g = good_by p t (unclean t) g

-- ---- a piece has no zero byte
no_zero : (t : List ℕ) → ((k : ℕ) → k < length t → 0 < get_or t k 0) → has_zero t ≡ false
no_zero t f =
    or_from_places has_zero (λ b. eqb b 0) refl (λ _ _. refl) t 0
    (λ k l. let h = f k l in ne_eqb (get_or t k 0) 0 (λ e. absurd (omega arith)))

pub piece_solid : (p : Splits) (t : List ℕ) → p.good t ≡ true → unclean t ≡ false → p.first t ≡ length t → has_zero t ≡ false
piece_solid p [] g u f = refl
piece_solid p (b ∷ []) g u f = grind (arith, nat_tests)
piece_solid p (b ∷ (d ∷ t)) g u f = no_zero (b ∷ (d ∷ t)) (λ k l. p.nonzero (b ∷ (d ∷ t)) g (omega arith) k (omega arith))

-- ---- widths
only_space : (t : List ℕ) → is_space t ≡ true → t ≡ space
only_space [] e = absurd (false≢true e)
only_space (b ∷ []) e = ap (λ (x : ℕ). x ∷ []) (eqb-true b 0x20 e)
only_space (b ∷ (d ∷ t)) e = absurd (false≢true e)

own_width : (p : Splits) (t : List ℕ) (w : Width) (s : Bool) → p.width t ≡ w → is_space t ≡ s → bad_width t (columns w) ≡ false
own_width p t Narrow s e i = refl
own_width p t Wide false e i = ap not (ap not i)
own_width p t Wide true e i =
    let n : Wide ≡ Narrow = sym e ∙ ap p.width (only_space t i) ∙ p.narrow in cc

pub width_agrees : (p : Splits) (t : List ℕ) (given : Option ℕ) → bad_width t (cell_width p t given) ≡ bad_given t given
width_agrees p t None = own_width p t (p.width t) (is_space t) refl refl
width_agrees p t (Some w) = refl

-- ---- the cell
abbrev pub dressed : {A : Type 0} → A → Text → Shown A
dressed a t = record { text = t.text; width = t.width; attrs = a }

mapped_verdict : {X Y : Type 0} (f : X → Y) (o : Option Refusal) (x : X) → mapped f (verdict o x) ≡ verdict o (f x)
mapped_verdict f None x = refl
mapped_verdict f (Some why) x = refl

-- the cell of a word r that is made of the cleaned text u
pub made_cell : {A : Type 0} (p : Splits) (t u : List ℕ) (given : Option ℕ) (width : ℕ) (attrs : A) (r : Result Text Refusal)
    → p.good t ≡ true → u ≡ clean t → p.first u ≡ length u → width ≡ cell_width p u given → r ≡ made (clean u) width
    → mapped (dressed attrs) r ≡ grapheme p t given attrs
made_cell p t u given width attrs r g c f w e =
    let v : clean u ≡ clean t = ap clean c ∙ clean_twice t in
    let wide : width ≡ cell_width p (clean t) given = w ∙ ap (λ (x : List ℕ). cell_width p x given) c in
    let one : p.first (clean t) ≡ length (clean t) = sym (ap p.first c) ∙ f ∙ ap length c in
    let z : has_zero (clean t) ≡ false = piece_solid p (clean t) (clean_good p t g) (clean_is_clean t) one in
    let b : bad_width (clean t) (cell_width p (clean t) given) ≡ bad_given (clean t) given = width_agrees p (clean t) given in
    let same : (p.first (clean t) == length (clean t)) ≡ true = eq-eqb (p.first (clean t)) (length (clean t)) one in
    simp (e, v, wide, z, b, same, g, mapped_verdict)
