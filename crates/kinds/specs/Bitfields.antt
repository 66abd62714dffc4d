-- The 32-bit number of the colour kind: bit 11 is the wrapped flag, bits 13 and 14 are the semantic type, the rest is carried unread.
-- flag_bit   the flag
-- type_bits  the type's number
-- with_flag  the number with its flag set so
use Rattle.std.specs.Prelude.{ℕ, ◌+◌, ◌*◌, ◌/◌, ◌%◌, ◌^◌, Bool, cond, ◌==◌}

abbrev pub flag_bit : ℕ → Bool
flag_bit n = n / 2 ^ 11 % 2 == 1

abbrev pub type_bits : ℕ → ℕ
type_bits n = n / 2 ^ 13 % 4

abbrev pub with_flag : ℕ → Bool → ℕ
with_flag n on = n / 2 ^ 12 * 2 ^ 12 + (cond on (2 ^ 11) 0 + n % 2 ^ 11)
