-- ASCII: every byte below 80 (hexadecimal) is good; each byte is a piece of width 1, but 0D 0A together is one.
-- ascii_good   whether a text is ASCII
-- ascii_first  the length of the first piece
-- ascii        the splitter
-- (The other names are proofs of its laws.)
use Rattle.std.specs.Prelude.{◌≡◌, ℕ, zero, suc, ◌<◌, ◌≤◌, min, Bool, true, cond, ◌&&◌, List, [], ◌∷◌, ◌++◌, length, take, drop, ◌==◌, nat_lt, slice_index, refl}
use Rattle.std.specs.List.{list_all}
use Rattle.std.proofs.Common.{sym, ap, ◌∙◌, arith}
use Rattle.std.proofs.lemmas.Bool.{and_from, and_parts}
use Rattle.std.proofs.lemmas.Bool.Decides.{nat_tests}
use Rattle.std.proofs.lemmas.List.{take-append-drop}
use Rattle.std.proofs.lemmas.List.Folds.{list_all-append}
use Rattle.splitters.specs.Splits.{Splits}
use Rattle.splitters.specs.declared.width.Width.TheVariants.{Narrow}

abbrev pub ascii_good : List ℕ → Bool
ascii_good t = list_all (λ b. nat_lt b 0x80) t

abbrev pub ascii_first : List ℕ → ℕ
ascii_first [] = 0
ascii_first (b ∷ []) = 1
ascii_first (b ∷ (d ∷ t)) = cond (b == 0x0d && d == 0x0a) 2 1

pub good_joined : (s t : List ℕ) → ascii_good s ≡ true → ascii_good t ≡ true → ascii_good (s ++ t) ≡ true
good_joined s t p q = list_all-append (λ b. nat_lt b 0x80) s t ∙ and_from (ascii_good s) (ascii_good t) p q

parted : (n : ℕ) (t : List ℕ) → ascii_good t ≡ true → (ascii_good (take n t) ≡ true) × (ascii_good (drop n t) ≡ true)
parted n t p =
    and_parts (ascii_good (take n t)) (ascii_good (drop n t))
    (sym (list_all-append (λ b. nat_lt b 0x80) (take n t) (drop n t)) ∙ ap ascii_good (take-append-drop n t) ∙ p)

pub good_front : (n : ℕ) (t : List ℕ) → ascii_good t ≡ true → ascii_good (take n t) ≡ true
good_front n t p = (parted n t p).0

pub good_back : (n : ℕ) (t : List ℕ) → ascii_good t ≡ true → ascii_good (drop n t) ≡ true
good_back n t p = (parted n t p).1

pub first_some : (t : List ℕ) → 0 < length t → 0 < ascii_first t
first_some [] h = h
first_some (b ∷ []) h = omega arith
first_some (b ∷ (d ∷ t)) h = grind (arith, nat_tests)

pub first_within : (s t : List ℕ) → 0 < length s → ascii_first s ≡ min (length s) (ascii_first (s ++ t))
first_within [] t h = absurd (omega arith)
first_within (b ∷ []) [] h = refl
first_within (b ∷ []) (d ∷ t) h = grind (arith, nat_tests)
first_within (b ∷ (d ∷ s)) t h = grind (arith, nat_tests)

-- two bytes are one piece only as 0D 0A
pair_of : (b d : ℕ) (t : List ℕ) → 2 ≤ ascii_first (b ∷ (d ∷ t)) → (b ≡ 0x0d) × (d ≡ 0x0a)
pair_of b d t h = (grind (arith, nat_tests), grind (arith, nat_tests))

at_most_two : (t : List ℕ) → ascii_first t ≤ 2
at_most_two [] = omega arith
at_most_two (b ∷ []) = omega arith
at_most_two (b ∷ (d ∷ t)) = grind (arith, nat_tests)

pub first_nonzero : (t : List ℕ) → 2 ≤ ascii_first t → (k : ℕ) → k < ascii_first t → 0 < slice_index t k
first_nonzero [] h k l = absurd (omega arith)
first_nonzero (b ∷ []) h k l = absurd (omega arith)
first_nonzero (b ∷ (d ∷ t)) h zero l = omega (arith, (pair_of b d t h).0)
first_nonzero (b ∷ (d ∷ t)) h (suc zero) l = omega (arith, (pair_of b d t h).1)
first_nonzero (b ∷ (d ∷ t)) h (suc (suc k)) l = absurd (omega (arith, at_most_two (b ∷ (d ∷ t))))

abbrev pub ascii : Splits
ascii = record {
  good = ascii_good;
  first = ascii_first;
  width = λ t. Narrow;
  empty = refl;
  blank = refl;
  joined = good_joined;
  piece = λ t p. good_front (ascii_first t) t p;
  rest = λ t p. good_back (ascii_first t) t p;
  some = λ t p. first_some t;
  within = λ s t p q. first_within s t;
  nonzero = λ t p. first_nonzero t;
  narrow = refl;
}
