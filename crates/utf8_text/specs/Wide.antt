-- Wide code points.
-- wide_ranges  the first and the last code point of each wide range, in order
-- wide         whether a code point lies in one of them
-- begins_wide  whether the first code point of a text is wide; false where the text begins with no character
use Rattle.std.specs.Prelude.{ℕ, Bool, false, List, [], ◌∷◌}
use Rattle.std.specs.List.{list_any}
use Rattle.utf8_text.specs.Reading.{within, points}

abbrev pub wide_ranges : List (ℕ × ℕ)
wide_ranges =
    (0x1100, 0x115F)
    ∷ (0x2E80, 0x303E)
    ∷ (0x3041, 0xA4CF)
    ∷ (0xAC00, 0xD7A3)
    ∷ (0xF900, 0xFAFF)
    ∷ (0xFE10, 0xFE19)
    ∷ (0xFE30, 0xFE6F)
    ∷ (0x1F300, 0x1F64F)
    ∷ (0x1F900, 0x1F9FF)
    ∷ (0x20000, 0x2FFFD)
    ∷ (0x30000, 0x3FFFD)
    ∷ []

abbrev pub wide : ℕ → Bool
wide c = list_any (λ r. within r.0 r.1 c) wide_ranges

abbrev pub first_wide : List ℕ → Bool
first_wide [] = false
first_wide (c ∷ cs) = wide c

abbrev pub begins_wide : List ℕ → Bool
begins_wide t = first_wide (points t)
