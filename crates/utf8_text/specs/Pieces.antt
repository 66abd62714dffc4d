-- Pieces, on code points.
-- control        U+0000 to U+001F, U+007F to U+009F
-- mark           U+0300 to U+036F, U+200D, U+FE00 to U+FE0F
-- leading_marks  the marks that a list of code points begins with;  leading_lf  the line feed that it begins with
-- attached       what belongs to a piece behind its first code point: behind CR a line feed, behind any other control nothing,
--                behind any other code point all marks directly behind it
-- first_piece    the code points of the first piece
-- size           how many bytes a code point takes (RFC 3629, section 3);  sizes  those of a list together
-- first_len      how many bytes the first piece of a text has; 0 where the text begins with no character
use Rattle.std.specs.Prelude.{ℕ, ◌+◌, Bool, cond, ◌||◌, List, [], ◌∷◌, ◌==◌, nat_le}
use Rattle.utf8_text.specs.Reading.{within, points}

abbrev pub control : ℕ → Bool
control c = nat_le c 0x1F || within 0x7F 0x9F c

abbrev pub mark : ℕ → Bool
mark c = within 0x300 0x36F c || (c == 0x200D || within 0xFE00 0xFE0F c)

abbrev pub leading_marks : List ℕ → List ℕ
leading_marks [] = []
leading_marks (c ∷ cs) = cond (mark c) (c ∷ leading_marks cs) []

abbrev pub leading_lf : List ℕ → List ℕ
leading_lf [] = []
leading_lf (c ∷ cs) = cond (c == 0x0A) (c ∷ []) []

abbrev pub attached : ℕ → List ℕ → List ℕ
attached c cs = cond (c == 0x0D) (leading_lf cs) (cond (control c) [] (leading_marks cs))

abbrev pub first_piece : List ℕ → List ℕ
first_piece [] = []
first_piece (c ∷ cs) = c ∷ attached c cs

abbrev pub size : ℕ → ℕ
size c = cond (nat_le c 0x7F) 1 (cond (nat_le c 0x7FF) 2 (cond (nat_le c 0xFFFF) 3 4))

abbrev pub sizes : List ℕ → ℕ
sizes [] = 0
sizes (c ∷ cs) = size c + sizes cs

abbrev pub first_len : List ℕ → ℕ
first_len t = sizes (first_piece (points t))
