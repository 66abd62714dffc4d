-- The validator's states: what may still come in each, and that a step takes off the first byte.
use Rattle.std.proofs.Common.{◌≡◌, ℕ, ◌+◌, ◌<◌, ◌≤◌, Bool, false, cond, ◌&&◌, eqb, leb, List, [], ◌∷◌, length, get_or, drop, Some, None, Option, sym, ap, ◌∙◌, arith}
use Rattle.std.proofs.lemmas.List.{drop_more, drop_all}
use Rattle.std.proofs.lemmas.Bool.{cond_both, leb-true}
use Rattle.std.proofs.lemmas.Bool.Decides.{nat_tests}
use Rattle.utf8_text.specs.Reading.{within, tail, begins_2, begins_3, begins_4, good}
use denote.Enum.Bare.{sameb}
use Rattle.utf8_text.specs.contracts.state.State.{the_type}
use Rattle.utf8_text.specs.declared.state.State.{State}
use Rattle.utf8_text.specs.declared.state.State.TheVariants.{Start, Tail1, Tail2, Tail3, AfterE0, AfterEd, AfterF0, AfterF4}

abbrev pub next : State → ℕ → Option State
next Start b =
    cond (leb b 0x7f) (Some Start)
    (cond (within 0xc2 0xdf b) (Some Tail1)
    (cond (eqb b 0xe0) (Some AfterE0)
    (cond (eqb b 0xed) (Some AfterEd)
    (cond (within 0xe1 0xef b) (Some Tail2)
    (cond (eqb b 0xf0) (Some AfterF0)
    (cond (within 0xf1 0xf3 b) (Some Tail3)
    (cond (eqb b 0xf4) (Some AfterF4) None)))))))
next Tail1 b = cond (within 0x80 0xbf b) (Some Start) None
next Tail2 b = cond (within 0x80 0xbf b) (Some Tail1) None
next Tail3 b = cond (within 0x80 0xbf b) (Some Tail2) None
next AfterE0 b = cond (within 0xa0 0xbf b) (Some Tail1) None
next AfterEd b = cond (within 0x80 0x9f b) (Some Tail1) None
next AfterF0 b = cond (within 0x90 0xbf b) (Some Tail2) None
next AfterF4 b = cond (within 0x80 0x8f b) (Some Tail2) None

-- a byte of a range, and then what passes a test
abbrev pub then : ℕ → ℕ → (List ℕ → Bool) → List ℕ → Bool
then lo hi f [] = false
then lo hi f (b ∷ t) = within lo hi b && f t

abbrev pub rest : State → List ℕ → Bool
rest Start t = good t
rest Tail1 t = then 0x80 0xbf good t
rest Tail2 t = then 0x80 0xbf (then 0x80 0xbf good) t
rest Tail3 t = then 0x80 0xbf (then 0x80 0xbf (then 0x80 0xbf good)) t
rest AfterE0 t = then 0xa0 0xbf (then 0x80 0xbf good) t
rest AfterEd t = then 0x80 0x9f (then 0x80 0xbf good) t
rest AfterF0 t = then 0x90 0xbf (then 0x80 0xbf (then 0x80 0xbf good)) t
rest AfterF4 t = then 0x80 0x8f (then 0x80 0xbf (then 0x80 0xbf good)) t

abbrev pub left : Option State → List ℕ → Bool
left None t = false
left (Some s) t = rest s t

-- the first byte's range says how long the character is, and in which range its second byte lies
one_more : (a : ℕ) (t : List ℕ) → a ≤ 0x7f → good (a ∷ t) ≡ good t
one_more a t h = grind (arith, nat_tests)

two_more : (a : ℕ) (t : List ℕ) → ((b : ℕ) → (0x7f < a) × (begins_2 a b ≡ tail b)) → good (a ∷ t) ≡ rest Tail1 t
two_more a [] h = grind (arith, nat_tests, h 0)
two_more a (b ∷ []) h = grind (arith, nat_tests, h b)
two_more a (b ∷ (c ∷ [])) h = grind (arith, nat_tests, h b)
two_more a (b ∷ (c ∷ (d ∷ t))) h = grind (arith, nat_tests, h b)

three_more : (lo hi a : ℕ) (t : List ℕ) → ((b : ℕ) → (0xdf < a) × (begins_3 a b ≡ within lo hi b) × (begins_4 a b ≡ false))
    → good (a ∷ t) ≡ then lo hi (rest Tail1) t
three_more lo hi a [] h = grind (arith, nat_tests, h 0)
three_more lo hi a (b ∷ []) h = grind (arith, nat_tests, h b)
three_more lo hi a (b ∷ (c ∷ [])) h = grind (arith, nat_tests, h b)
three_more lo hi a (b ∷ (c ∷ (d ∷ t))) h = grind (arith, nat_tests, h b)

four_more : (lo hi a : ℕ) (t : List ℕ) → ((b : ℕ) → (0xef < a) × (begins_4 a b ≡ within lo hi b))
    → good (a ∷ t) ≡ then lo hi (rest Tail2) t
four_more lo hi a [] h = grind (arith, nat_tests, h 0)
four_more lo hi a (b ∷ []) h = grind (arith, nat_tests, h b)
four_more lo hi a (b ∷ (c ∷ [])) h = grind (arith, nat_tests, h b)
four_more lo hi a (b ∷ (c ∷ (d ∷ t))) h = grind (arith, nat_tests, h b)

no_more : (a : ℕ) (t : List ℕ)
    → ((b : ℕ) → (0x7f < a) × (begins_2 a b ≡ false) × (begins_3 a b ≡ false) × (begins_4 a b ≡ false)) → good (a ∷ t) ≡ false
no_more a [] h = grind (arith, nat_tests, h 0)
no_more a (b ∷ []) h = grind (arith, nat_tests, h b)
no_more a (b ∷ (c ∷ [])) h = grind (arith, nat_tests, h b)
no_more a (b ∷ (c ∷ (d ∷ t))) h = grind (arith, nat_tests, h b)

at_start : (a : ℕ) (t : List ℕ) → good (a ∷ t) ≡ left (next Start a) t
at_start a t =
    let P : Option State → Type 0 = λ o. good (a ∷ t) ≡ left o t in
    cond_both (leb a 0x7f) _ _ P (λ e. one_more a t (leb-true a 0x7f e)) (λ e0.
    cond_both (within 0xc2 0xdf a) _ _ P (λ e. two_more a t (λ b. grind (arith, nat_tests))) (λ e1.
    cond_both (eqb a 0xe0) _ _ P (λ e. three_more 0xa0 0xbf a t (λ b. grind (arith, nat_tests))) (λ e2.
    cond_both (eqb a 0xed) _ _ P (λ e. three_more 0x80 0x9f a t (λ b. grind (arith, nat_tests))) (λ e3.
    cond_both (within 0xe1 0xef a) _ _ P (λ e. three_more 0x80 0xbf a t (λ b. grind (arith, nat_tests))) (λ e4.
    cond_both (eqb a 0xf0) _ _ P (λ e. four_more 0x90 0xbf a t (λ b. grind (arith, nat_tests))) (λ e5.
    cond_both (within 0xf1 0xf3 a) _ _ P (λ e. four_more 0x80 0xbf a t (λ b. grind (arith, nat_tests))) (λ e6.
    cond_both (eqb a 0xf4) _ _ P (λ e. four_more 0x80 0x8f a t (λ b. grind (arith, nat_tests))) (λ e7.
    no_more a t (λ b. grind (arith, nat_tests))))))))))

step : (s : State) (b : ℕ) (t : List ℕ) → rest s (b ∷ t) ≡ left (next s b) t
step s b t = grind (arith, nat_tests, at_start b t)

-- one turn of the loop
stepped : (text : List ℕ) (i : ℕ) (s : State) (o : Option State) → i < length text → o ≡ next s (get_or text i 0)
    → rest s (drop i text) ≡ good text → left o (drop (i + 1) text) ≡ good text
stepped text i s o h e r =
    let m = step s (get_or text i 0) (drop (i + 1) text) in
    ap (λ x. left x (drop (i + 1) text)) e ∙ (sym m ∙ (ap (rest s) (sym (drop_more text i 0 h)) ∙ r))

pub passed : (text : List ℕ) (i : ℕ) (s n : State) → rest s (drop i text) ≡ good text → i < length text → next s (get_or text i 0) ≡ Some n → rest n (drop (i + 1) text) ≡ good text
passed text i s n r h e = stepped text i s (Some n) h (sym e) r

-- a byte that the state does not let pass
pub stuck : (text : List ℕ) (i : ℕ) (s : State) → rest s (drop i text) ≡ good text → i < length text → next s (get_or text i 0) ≡ None → false ≡ good text
stuck text i s r h e = stepped text i s None h (sym e) r

-- at the end only a text that stands at the start of a character is good
ended : (s : State) → sameb the_type s Start ≡ rest s []
ended s = grind arith

pub end_of : (text : List ℕ) (i : ℕ) (s : State) → length text ≤ i → rest s (drop i text) ≡ good text → sameb the_type s Start ≡ good text
end_of text i s h r = ended s ∙ (ap (rest s) (sym (drop_all i text h)) ∙ r)
