-- A bit flipped in a list of words.
use Rattle.std.proofs.Common.{◌≡◌, ℕ, zero, suc, ◌+◌, ◌-◌, ◌*◌, ◌/◌, ◌%◌, ◌^◌, ◌<◌, false, cond, not, eqb, List, length, get_or, set, replicate, sym, refl, ap, ◌∙◌, pow-suc, arith}
use lib.Bits.{bit_xor, xor_shr, xor_zero_r}
use lib.Count.{ones, ones_step}
use Rattle.std.proofs.lemmas.Nat.{one_shl}
use Rattle.std.proofs.lemmas.List.{get_or-set_other}
use Rattle.std.proofs.lemmas.List.Sums.{sum_by-set}
use Rattle.std.proofs.lemmas.Grind.{get_or-set_at}
use Rattle.std.proofs.lemmas.Bool.Decides.{nat_tests}
use Rattle.std.proofs.lemmas.Nat.Bits.{bit_at_lowest, bit_at-suc, bit_at-zero, bit_at_xor, bit_at-pow_same, bit_at-pow_other, bit_at-lt}
use Rattle.std.specs.Int.{bit_at}
use Rattle.runs.specs.Bits.{bits_of, ones_in}

flip_same : (w j : ℕ) → bit_at (bit_xor w (2 ^ j)) j ≡ 1 - bit_at w j
flip_same w j = grind (arith, bit_at_xor w (2 ^ j) j, bit_at-pow_same j, bit_at-lt w j)

flip_other : (w j k : ℕ) → (k ≡ j → ⊥) → bit_at (bit_xor w (2 ^ j)) k ≡ bit_at w k
flip_other w j k h = grind (arith, bit_at_xor w (2 ^ j) k, bit_at-pow_other j k h, bit_at-lt w k)

pub flipped : (ws : List ℕ) (i w : ℕ) → i < 64 * length ws → w ≡ get_or ws (i / 64) 0
    → (k : ℕ) → bits_of (set ws (i / 64) (bit_xor w ((1 * 2 ^ (i % 64)) % 2 ^ 64))) k ≡ cond (eqb k i) (not (bits_of ws i)) (bits_of ws k)
flipped ws i w h e k =
    let v : ℕ = bit_xor w ((1 * 2 ^ (i % 64)) % 2 ^ 64) in
    let u : v ≡ bit_xor w (2 ^ (i % 64)) = ap (bit_xor w) (one_shl (i % 64) 64 (omega arith)) in
    let s = flip_same w (i % 64) in
    let f = flip_other w (i % 64) (k % 64) in
    let l = bit_at-lt w (i % 64) in
    let m = ap (λ x. bit_at x (i % 64)) e in
    let a = get_or-set_at ws (i / 64) (k / 64) v 0 in
    let b = get_or-set_other ws (i / 64) (k / 64) v 0 in
    rw u (grind (arith, nat_tests))

-- ---- how many are set
ones_flip : (j w : ℕ) → ones (bit_xor w (2 ^ j)) + bit_at w j ≡ ones w + (1 - bit_at w j)
ones_flip zero w =
    let a = ones_step (bit_xor w 1) in
    let b = ones_step w in
    let e : ones (bit_xor w 1 / 2) ≡ ones (w / 2) = ap ones (xor_shr w 1 1 ∙ xor_zero_r (w / 2)) in
    let f : bit_at (bit_xor w 1) 0 ≡ 1 - bit_at w 0 = flip_same w 0 in
    let l = bit_at_lowest (bit_xor w 1) in
    let m = bit_at_lowest w in
    omega arith
ones_flip (suc j) w =
    let p : 2 ^ suc j ≡ 2 ^ j * 2 = pow-suc 2 j in
    let a = ones_step (bit_xor w (2 ^ suc j)) in
    let b = ones_step w in
    let h : 2 ^ suc j / 2 ≡ 2 ^ j = omega arith in
    let e : ones (bit_xor w (2 ^ suc j) / 2) ≡ ones (bit_xor (w / 2) (2 ^ j)) = ap ones (xor_shr w (2 ^ suc j) 1 ∙ ap (bit_xor (w / 2)) h) in
    let f = flip_other w (suc j) 0 (λ z. absurd (omega arith)) in
    let l = bit_at_lowest (bit_xor w (2 ^ suc j)) in
    let m = bit_at_lowest w in
    let i = ones_flip j (w / 2) in
    let z = bit_at-suc w j in
    omega arith

pub counted : (ws : List ℕ) (i w : ℕ) → i < 64 * length ws → w ≡ get_or ws (i / 64) 0
    → ones_in (set ws (i / 64) (bit_xor w ((1 * 2 ^ (i % 64)) % 2 ^ 64))) + cond (bits_of ws i) 1 0 ≡ ones_in ws + cond (not (bits_of ws i)) 1 0
counted ws i w h e =
    let v : ℕ = bit_xor w ((1 * 2 ^ (i % 64)) % 2 ^ 64) in
    let u : v ≡ bit_xor w (2 ^ (i % 64)) = ap (bit_xor w) (one_shl (i % 64) 64 (omega arith)) in
    let n : ones v ≡ ones (bit_xor w (2 ^ (i % 64))) = ap ones u in
    let f = ones_flip (i % 64) w in
    let s = sum_by-set ones ws (i / 64) v 0 (omega arith) in
    let g : ones (get_or ws (i / 64) 0) ≡ ones w = ap ones (sym e) in
    let l = bit_at-lt w (i % 64) in
    let m = ap (λ x. bit_at x (i % 64)) e in
    grind (arith, nat_tests)

-- ---- none is set
zeros : (n i : ℕ) → get_or {A = ℕ} (replicate n 0) i 0 ≡ 0
zeros zero i = refl
zeros (suc n) zero = refl
zeros (suc n) (suc i) = zeros n i

pub bits_none : (n k : ℕ) → bits_of (replicate n 0) k ≡ false
bits_none n k = ap (λ (w : ℕ). eqb (bit_at w (k % 64)) 1) (zeros n (k / 64)) ∙ ap (λ v. eqb v 1) (bit_at-zero (k % 64))
