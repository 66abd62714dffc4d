-- UTF-8 by the grammar of RFC 3629, section 4.
-- In           a byte lies in a range; both ends belong to it
-- Utf8Tail     a byte that is not the first of its character
-- Utf8Char     the bytes of one character: UTF8-1, UTF8-2, UTF8-3 or UTF8-4, with a case for each alternative of the grammar
-- Utf8Octets   any number of characters, one behind another
use Rattle.std.specs.Prelude.{ℕ, ◌≤◌, List, [], ◌∷◌, ◌++◌}

abbrev pub In : ℕ → ℕ → ℕ → Type 0
In lo hi b = (lo ≤ b) × (b ≤ hi)

-- UTF8-tail = %x80-BF
abbrev pub Utf8Tail : ℕ → Type 0
Utf8Tail b = In 0x80 0xBF b

-- UTF8-char = UTF8-1 / UTF8-2 / UTF8-3 / UTF8-4
pub data Utf8Char : List ℕ → Type 0 where
  -- UTF8-1 = %x00-7F
  utf8_1 : {a : ℕ} → In 0x00 0x7F a → Utf8Char (a ∷ [])
  -- UTF8-2 = %xC2-DF UTF8-tail
  utf8_2 : {a b : ℕ} → In 0xC2 0xDF a → Utf8Tail b → Utf8Char (a ∷ (b ∷ []))
  -- UTF8-3 = %xE0 %xA0-BF UTF8-tail / %xE1-EC 2( UTF8-tail ) / %xED %x80-9F UTF8-tail / %xEE-EF 2( UTF8-tail )
  utf8_3_e0 : {a b c : ℕ} → In 0xE0 0xE0 a → In 0xA0 0xBF b → Utf8Tail c → Utf8Char (a ∷ (b ∷ (c ∷ [])))
  utf8_3_e1 : {a b c : ℕ} → In 0xE1 0xEC a → Utf8Tail b → Utf8Tail c → Utf8Char (a ∷ (b ∷ (c ∷ [])))
  utf8_3_ed : {a b c : ℕ} → In 0xED 0xED a → In 0x80 0x9F b → Utf8Tail c → Utf8Char (a ∷ (b ∷ (c ∷ [])))
  utf8_3_ee : {a b c : ℕ} → In 0xEE 0xEF a → Utf8Tail b → Utf8Tail c → Utf8Char (a ∷ (b ∷ (c ∷ [])))
  -- UTF8-4 = %xF0 %x90-BF 2( UTF8-tail ) / %xF1-F3 3( UTF8-tail ) / %xF4 %x80-8F 2( UTF8-tail )
  utf8_4_f0 : {a b c d : ℕ} → In 0xF0 0xF0 a → In 0x90 0xBF b → Utf8Tail c → Utf8Tail d → Utf8Char (a ∷ (b ∷ (c ∷ (d ∷ []))))
  utf8_4_f1 : {a b c d : ℕ} → In 0xF1 0xF3 a → Utf8Tail b → Utf8Tail c → Utf8Tail d → Utf8Char (a ∷ (b ∷ (c ∷ (d ∷ []))))
  utf8_4_f4 : {a b c d : ℕ} → In 0xF4 0xF4 a → In 0x80 0x8F b → Utf8Tail c → Utf8Tail d → Utf8Char (a ∷ (b ∷ (c ∷ (d ∷ []))))

-- UTF8-octets = *( UTF8-char )
pub data Utf8Octets : List ℕ → Type 0 where
  none : Utf8Octets []
  more : {s t : List ℕ} → Utf8Char s → Utf8Octets t → Utf8Octets (s ++ t)
