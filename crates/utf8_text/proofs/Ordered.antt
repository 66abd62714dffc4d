-- Ranges in order: a test that is computed once over a table, and what a search in order learns from it.
use Rattle.std.proofs.Common.{◌≡◌, ℕ, zero, suc, ◌+◌, ◌<◌, ◌≤◌, Bool, true, false, ◌&&◌, leb, ltb, List, [], ◌∷◌, length, get_or, sym, refl, ap, ◌∙◌, Some, None, Option, MatchOption, Bor, ⊎_elim, not-suc-le-zero, arith}
use Rattle.std.specs.List.{AllAdjacentBelow}
use Rattle.std.specs.List.Sorted.{IsNonDecreasingBy, IsPartitionPoint}
use Rattle.std.specs.Slice.{IsItemAt}
use Rattle.std.proofs.lemmas.Bool.{cases_lt, cases_Bool, leb-false}
use Rattle.std.proofs.lemmas.Bool.Decides.{nat_tests}
use Rattle.std.proofs.lemmas.List.{get_or_default}
use Rattle.std.proofs.lemmas.List.Folds.{list_any_at, list_any_none}
use Rattle.std.proofs.lemmas.List.Sorted.{IsNonDecreasingBy-from_all_adjacent}
use Rattle.utf8_text.specs.Reading.{within}
use Rattle.utf8_text.specs.Wide.{wide_ranges, wide}

-- each range starts at b or above, ends where it starts or above, and the next starts above its end
abbrev pub ordered : ℕ → List (ℕ × ℕ) → Bool
ordered b [] = true
ordered b (p ∷ ps) = leb b p.0 && (leb p.0 p.1 && ordered (suc p.1) ps)

adjacent : (b : ℕ) (ps : List (ℕ × ℕ)) → ordered b ps ≡ true
    → AllAdjacentBelow (λ p q. (p.0 ≤ q.0) × (p.1 ≤ q.1)) ps (length ps)
adjacent b [] o k d h = absurd (not-suc-le-zero h)
adjacent b (p ∷ []) o k d h = absurd (omega arith)
adjacent b (p ∷ (q ∷ ps)) o zero d h = grind (arith, nat_tests)
adjacent b (p ∷ (q ∷ ps)) o (suc k) d h =
    let n : suc k + 1 ≡ suc (k + 1) = omega arith in
    rw n (adjacent (suc p.1) (q ∷ ps) (grind (arith, nat_tests)) k d (omega arith))

-- the order of the wide ranges, computed once
in_order : ordered 0 wide_ranges ≡ true
in_order = refl

starts_rise : IsNonDecreasingBy (λ p. p.0) wide_ranges
starts_rise = IsNonDecreasingBy-from_all_adjacent (λ p. p.0) wide_ranges (λ k d h. (adjacent 0 wide_ranges in_order k d h).0)

pub ends_rise : IsNonDecreasingBy (λ p. p.1) wide_ranges
ends_rise = IsNonDecreasingBy-from_all_adjacent (λ p. p.1) wide_ranges (λ k d h. (adjacent 0 wide_ranges in_order k d h).1)

-- the ranges before `at` end below c
abbrev pub Behind : ℕ → ℕ → Type 0
Behind c at = (k : ℕ) → k < at → (get_or wide_ranges k (0, 0)).1 < c

-- the ranges before `at` end below c, those from it on do not
abbrev pub Halved : ℕ → ℕ → Type 0
Halved c at = IsPartitionPoint (λ p. ltb p.1 c ≡ true) (λ p. ltb p.1 c ≡ false) wide_ranges at

in_none : (c at : ℕ) → Halved c at → ((d : ℕ × ℕ) → at < length wide_ranges → c < (get_or wide_ranges at d).0) → false ≡ wide c
in_none c at p h =
    sym (list_any_none (λ r. within r.0 r.1 c) wide_ranges (λ k d l.
    grind (arith, nat_tests, p.0 k d, p.1 k d, starts_rise at k d, h d, cases_lt k at)))

found : (c at : ℕ) → Halved c at → at < length wide_ranges → leb (get_or wide_ranges at (0, 0)).0 c ≡ wide c
found c at p l =
    let r = get_or wide_ranges at (0, 0) in
    ⊎_elim (λ (e : leb r.0 c ≡ true).
    let q = p.1 at (0, 0) (omega arith) l in
    e ∙ sym (list_any_at (λ r. within r.0 r.1 c) wide_ranges at (0, 0) l (grind (arith, nat_tests))))
    (λ (e : leb r.0 c ≡ false). e ∙ in_none c at p (λ d m. omega (arith, ap (λ (x : ℕ × ℕ). x.0) (get_or_default wide_ranges at (0, 0) d l), leb-false _ _ e)))
    (cases_Bool (leb r.0 c))

pub searched : (c at : ℕ) (o : Option (Bor (ℕ × ℕ))) (b : Bool) → Halved c at → IsItemAt wide_ranges at o → MatchOption o (b ≡ false) (λ p. b ≡ leb p.now.0 c) → b ≡ wide c
searched c at None b p i h = h ∙ in_none c at p (λ d l. absurd (omega (arith, i.3)))
searched c at (Some r) b p i h = h ∙ (ap (λ (x : ℕ × ℕ). leb x.0 c) (i.3.1 (0, 0)) ∙ found c at p i.3.0)

-- ---- a walk over the ranges
halved : (c at : ℕ) → Behind c at → at ≤ length wide_ranges → (at < length wide_ranges → c ≤ (get_or wide_ranges at (0, 0)).1) → Halved c at
halved c at b l h = (
  λ k d _ m. let g = get_or_default wide_ranges k d (0, 0) (omega arith) in grind (arith, nat_tests, b k m, ap (λ (x : ℕ × ℕ). x.1) g),
  λ k d m n. let g = get_or_default wide_ranges k d (0, 0) n in grind (arith, nat_tests, h (omega arith), ends_rise at k (0, 0) m n, ap (λ (x : ℕ × ℕ). x.1) g),
)

pub walked : (c at : ℕ) → Behind c at → at < length wide_ranges → c ≤ (get_or wide_ranges at (0, 0)).1
    → leb (get_or wide_ranges at (0, 0)).0 c ≡ wide c
walked c at b l h = found c at (halved c at b (omega arith) (λ _. h)) l

pub past : (c : ℕ) → Behind c (length wide_ranges) → false ≡ wide c
past c b = in_none c _ (halved c (length wide_ranges) b (omega arith) (λ h. absurd (omega arith))) (λ d h. absurd (omega arith))
