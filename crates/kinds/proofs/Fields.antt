-- Bit operations on the colour kind's number.
use Rattle.std.proofs.Common.{◌≡◌, ℕ, ◌+◌, ◌*◌, ◌/◌, ◌%◌, ◌^◌, ◌<◌, ◌-◌, true, false, sym, ap, ◌∙◌, arith}
use lib.Bits.{bit_and, bit_or, or_add_and, and_mask, and_block}
use Rattle.std.proofs.lemmas.Nat.Bits.{and_pow}
use Rattle.kinds.specs.Bitfields.{with_flag}

pub flag_and : (n : ℕ) → bit_and n 0x0000_0800 ≡ (n / 2 ^ 11 % 2) * 2 ^ 11
flag_and n = and_pow n 11

pub flag_set : (n : ℕ) → bit_or n 0x0000_0800 ≡ with_flag n true
flag_set n = omega (arith, or_add_and n 0x0000_0800, flag_and n)

-- every bit but the flag
pub flag_cleared : (n : ℕ) → n < 2 ^ 32 → bit_and n 0xffff_f7ff ≡ with_flag n false
flag_cleared n h =
    let s : n / 2 ^ 12 * 2 ^ 12 + n % 2 ^ 12 ≡ n = omega arith in
    let b = and_block 12 (n / 2 ^ 12) (2 ^ 20 - 1) (n % 2 ^ 12) (2 ^ 11 - 1) (omega arith) (omega arith) in
    let hi = and_mask (n / 2 ^ 12) 20 in
    let lo = and_mask (n % 2 ^ 12) 11 in
    ap (λ (k : ℕ). bit_and k 0xffff_f7ff) (sym s) ∙ b ∙ omega arith
