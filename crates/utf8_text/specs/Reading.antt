-- Reading UTF-8 as a computation.
-- within       whether a number lies in a range; both ends belong to it
-- tail         whether a byte may stand behind the first of its character
-- begins_2, begins_3, begins_4   whether two bytes begin a character of two, three, four bytes
-- point_2, point_3, point_4      the code point of such a character: what its bytes hold, six bits in each but the first
-- long_point   the code point of two and more bytes that a text begins with and how many bytes it takes, if there is one
-- first_point  the code point that a text begins with and how many bytes it takes; none where the text begins with no character
-- points       the code points of a text; what stands behind the first place where no character begins is left out
-- good         whether a text is characters up to its end
-- (What ends in _past first leaves out the bytes that still belong to the character before.)
use Rattle.std.specs.Prelude.{ℕ, zero, suc, pred, ◌+◌, ◌-◌, ◌*◌, Bool, true, false, cond, ◌&&◌, ◌||◌, List, [], ◌∷◌, Some, None, Option, nat_le}

abbrev pub within : ℕ → ℕ → ℕ → Bool
within lo hi b = nat_le lo b && nat_le b hi

abbrev pub tail : ℕ → Bool
tail b = within 0x80 0xBF b

abbrev pub begins_2 : ℕ → ℕ → Bool
begins_2 a b = within 0xC2 0xDF a && tail b

abbrev pub begins_3 : ℕ → ℕ → Bool
begins_3 a b =
    (within 0xE0 0xE0 a && within 0xA0 0xBF b) || ((within 0xE1 0xEC a && tail b)
    || ((within 0xED 0xED a && within 0x80 0x9F b) || (within 0xEE 0xEF a && tail b)))

abbrev pub begins_4 : ℕ → ℕ → Bool
begins_4 a b =
    (within 0xF0 0xF0 a && within 0x90 0xBF b) || ((within 0xF1 0xF3 a && tail b) || (within 0xF4 0xF4 a && within 0x80 0x8F b))

abbrev pub point_2 : ℕ → ℕ → ℕ
point_2 a b = (a - 0xC0) * 0x40 + (b - 0x80)

abbrev pub point_3 : ℕ → ℕ → ℕ → ℕ
point_3 a b c = (a - 0xE0) * 0x1000 + (b - 0x80) * 0x40 + (c - 0x80)

abbrev pub point_4 : ℕ → ℕ → ℕ → ℕ → ℕ
point_4 a b c d = (a - 0xF0) * 0x40000 + (b - 0x80) * 0x1000 + (c - 0x80) * 0x40 + (d - 0x80)

abbrev pub four : ℕ → ℕ → ℕ → List ℕ → Option (ℕ × ℕ)
four a b c [] = None
four a b c (d ∷ t) = cond (begins_4 a b && (tail c && tail d)) (Some (point_4 a b c d, 4)) None

abbrev pub three : ℕ → ℕ → List ℕ → Option (ℕ × ℕ)
three a b [] = None
three a b (c ∷ t) = cond (begins_3 a b && tail c) (Some (point_3 a b c, 3)) (four a b c t)

abbrev pub two : ℕ → List ℕ → Option (ℕ × ℕ)
two a [] = None
two a (b ∷ t) = cond (begins_2 a b) (Some (point_2 a b, 2)) (three a b t)

abbrev pub long_point : List ℕ → Option (ℕ × ℕ)
long_point [] = None
long_point (a ∷ t) = two a t

abbrev pub first_point : List ℕ → Option (ℕ × ℕ)
first_point [] = None
first_point (a ∷ t) = cond (nat_le a 0x7F) (Some (a, 1)) (long_point (a ∷ t))

abbrev pub points_past : ℕ → List ℕ → List ℕ
points_past n [] = []
points_past (suc n) (b ∷ t) = points_past n t
points_past zero (b ∷ t) = elim (first_point (b ∷ t)) [ None ↦ [] | Some p ↦ p.0 ∷ points_past (pred p.1) t ]

abbrev pub points : List ℕ → List ℕ
points t = points_past 0 t

abbrev pub good_past : ℕ → List ℕ → Bool
good_past n [] = true
good_past (suc n) (b ∷ t) = good_past n t
good_past zero (b ∷ t) = elim (first_point (b ∷ t)) [ None ↦ false | Some p ↦ good_past (pred p.1) t ]

abbrev pub good : List ℕ → Bool
good t = good_past 0 t
