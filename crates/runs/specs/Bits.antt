-- Bits in words of 64.
-- bits_of  whether the k-th bit of a list of words is set
-- ones_in  how many bits of a list of words are set
use Rattle.std.specs.Prelude.{ℕ, ◌/◌, ◌%◌, Bool, List, sum_by, ◌==◌, count_ones, slice_index}
use Rattle.std.specs.Int.{bit_at}

abbrev pub bits_of : List ℕ → ℕ → Bool
bits_of words i = bit_at (slice_index words (i / 64)) (i % 64) == 1

abbrev pub ones_in : List ℕ → ℕ
ones_in words = sum_by count_ones words
