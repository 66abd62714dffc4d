-- The text word of 64 bits: the text's bytes from bit 0 on, the first lowest; bit 62 for width 2; bit 63 always.
-- value          the bytes as a number, the first lowest
-- word_of        the word of a text and a width
-- text_of        the text of a word: its bytes up to the first zero, at most seven
-- width_of       the width of a word
-- is_space, has_zero, same_bytes   whether a text is a space, has a zero byte, is byte by byte another
-- Text           a text and its width
-- spelled        the text and the width of a word
-- word_refusals  what a clean text and a width are refused for, in the order of the numbers
-- made           the text and width of the word that is made, or the refusal
-- Bits           where each bit of a word comes from
use Rattle.std.specs.Prelude.{◌≡◌, ℕ, zero, suc, ◌+◌, ◌-◌, ◌*◌, ◌/◌, ◌%◌, ◌^◌, ◌<◌, Bool, true, false, not, ◌&&◌, ◌||◌, List, [], ◌∷◌, length, Result, ◌==◌, nat_lt, slice_index}
use Rattle.cells.specs.Refusals.{first_of, verdict}
use Rattle.cells.specs.declared.refusal.Refusal.{Refusal}
use Rattle.cells.specs.declared.refusal.Refusal.TheVariants.{NotOnePiece, TooLong, BadWidth}

abbrev pub value : List ℕ → ℕ
value [] = 0
value (b ∷ bs) = b + 256 * value bs

abbrev pub word_of : List ℕ → ℕ → ℕ
word_of text width = value text + (width - 1) * 2 ^ 62 + 2 ^ 63

-- a byte with what follows it, or the end at a zero
abbrev pub up_to : ℕ → List ℕ → List ℕ
up_to zero bs = []
up_to (suc b) bs = suc b ∷ bs

-- the bytes of a number, the lowest first, up to the first zero and at most so many
abbrev pub bytes_in : ℕ → ℕ → List ℕ
bytes_in zero n = []
bytes_in (suc k) n = up_to (n % 256) (bytes_in k (n / 256))

unfoldable pub text_of : ℕ → List ℕ
text_of w = bytes_in 7 w

abbrev pub width_of : ℕ → ℕ
width_of w = w / 2 ^ 62 % 2 + 1

abbrev pub is_space : List ℕ → Bool
is_space [] = false
is_space (b ∷ []) = b == 0x20
is_space (b ∷ (d ∷ t)) = false

abbrev pub same_bytes : List ℕ → List ℕ → Bool
same_bytes [] [] = true
same_bytes [] (d ∷ t) = false
same_bytes (b ∷ s) [] = false
same_bytes (b ∷ s) (d ∷ t) = b == d && same_bytes s t

abbrev pub has_zero : List ℕ → Bool
has_zero [] = false
has_zero (b ∷ bs) = b == 0 || has_zero bs

-- a width is 1 or 2, and of a space 1
abbrev pub bad_width : List ℕ → ℕ → Bool
bad_width text width = not (width == 1 || (width == 2 && not (is_space text)))

abbrev pub word_refusals : List ℕ → ℕ → List (Bool × Refusal)
word_refusals text width =
    (has_zero text, NotOnePiece) ∷ (nat_lt 7 (length text), TooLong) ∷ (bad_width text width, BadWidth) ∷ []

pub record Text : Type 0 where
  pub text : List ℕ
  pub width : ℕ

abbrev pub spelled : ℕ → Text
spelled w = record { text = text_of w; width = width_of w }

-- the word that a clean text and a width make, or the first of their refusals
abbrev pub made : List ℕ → ℕ → Result Text Refusal
made text width = verdict (first_of (word_refusals text width)) (record { text = text; width = width })

-- where each bit of a word comes from
pub record Bits (w : ℕ) (t : Text) : Type 0 where
  pub byte : (i : ℕ) → i < 7 → w / 2 ^ (8 * i) % 256 ≡ slice_index t.text i
  pub between : w / 2 ^ 56 % 2 ^ 6 ≡ 0
  pub wide : w / 2 ^ 62 % 2 ≡ t.width - 1
  pub top : w / 2 ^ 63 ≡ 1
