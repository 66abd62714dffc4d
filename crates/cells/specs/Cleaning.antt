-- Texts that move or do nothing on a display, and what stands for them.
-- unclean  the empty text, 0D 0A, a single byte below 20 or equal to 7F, C2 with just one byte from 80 to 9F behind it (hexadecimal)
-- clean    a text, or a space where the text is unclean
use Rattle.std.specs.Prelude.{ℕ, Bool, true, false, cond, ◌&&◌, ◌||◌, List, [], ◌∷◌, ◌==◌, nat_le, nat_lt}

abbrev pub space : List ℕ
space = 0x20 ∷ []

abbrev pub unclean : List ℕ → Bool
unclean [] = true
unclean (b ∷ []) = nat_lt b 0x20 || b == 0x7f
unclean (b ∷ (d ∷ [])) = (b == 0x0d && d == 0x0a) || (b == 0xc2 && (nat_le 0x80 d && nat_le d 0x9f))
unclean (b ∷ (d ∷ (e ∷ t))) = false

abbrev pub clean : List ℕ → List ℕ
clean t = cond (unclean t) space t
