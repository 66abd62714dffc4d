-- A text as lines.
-- lines_of  the lines of a text: each ends at a line feed (0A), the last also at the end of the text; an empty text has none
use Rattle.std.specs.Prelude.{ℕ, cond, List, [], ◌∷◌, ◌==◌}

-- a byte more at the front of the first line
abbrev pub grown : ℕ → List (List ℕ) → List (List ℕ)
grown b [] = (b ∷ []) ∷ []
grown b (line ∷ lines) = (b ∷ line) ∷ lines

abbrev pub lines_of : List ℕ → List (List ℕ)
lines_of [] = []
lines_of (b ∷ t) = cond (b == 0x0a) ([] ∷ lines_of t) (grown b (lines_of t))
