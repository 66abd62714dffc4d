-- Why a call is refused, and which refusal it gives.
-- number    the number of each refusal
-- sentence  what each refusal says to whoever made the call
-- first_of  of refusals in the order of their numbers, each with its condition, the first whose condition holds
-- verdict   what a call answers: its refusal if it has one, else its value
-- mapped    an answer by what its value means
use Rattle.std.specs.Prelude.{ℕ, Bool, cond, codes, List, [], ◌∷◌, Some, None, Ok, Err, Option, Result}
use Rattle.cells.specs.declared.refusal.Refusal.{Refusal}
use Rattle.cells.specs.declared.refusal.Refusal.TheVariants.{NotGood, NotOnePiece, TooLong, BadWidth, MarginZero, PastCapacity, PartsWide, NoSuchRow, TooSmall, Fuses, Full, BadType}

abbrev pub number : Refusal → ℕ
number NotGood = 1
number NotOnePiece = 2
number TooLong = 3
number BadWidth = 4
number MarginZero = 5
number PastCapacity = 6
number PartsWide = 7
number NoSuchRow = 8
number TooSmall = 9
number Fuses = 10
number Full = 11
number BadType = 12

abbrev pub sentence : Refusal → List ℕ
sentence NotGood = codes "the text is not good text"
sentence NotOnePiece = codes "the text is not one piece"
sentence TooLong = codes "a piece of the text is longer than 7 bytes"
sentence BadWidth = codes "the width is not 1 or 2, or is 2 for a space"
sentence MarginZero = codes "the margin is 0"
sentence PastCapacity = codes "the row would pass its capacity"
sentence PartsWide = codes "a wide cell would be parted"
sentence NoSuchRow = codes "there is no such wrapped row"
sentence TooSmall = codes "the memory or row for the result is too small"
sentence Fuses = codes "two neighbouring texts fuse"
sentence Full = codes "the store has no room"
sentence BadType = codes "there is no such semantic type"

abbrev pub first_of : List (Bool × Refusal) → Option Refusal
first_of [] = None
first_of (p ∷ ps) = cond p.0 (Some p.1) (first_of ps)

abbrev pub verdict : {X : Type 0} → Option Refusal → X → Result X Refusal
verdict None x = Ok x
verdict (Some why) x = Err why

abbrev pub mapped : {X Y : Type 0} → (X → Y) → Result X Refusal → Result Y Refusal
mapped f (Ok x) = Ok (f x)
mapped f (Err why) = Err why
