-- Which refusal a call gives.
-- fits       whether a refusal of that number stands in a list, and its condition holds
-- ascends    whether the numbers of a list ascend
-- Smallest   a refusal is given exactly if its condition holds and that of no smaller number does; none exactly if no condition holds
-- Choosing   so it is of every list whose numbers ascend; every call's list ascends, and those of making a text word and a cell;
--            every call but compaction and expansion gives the refusal of its list (of compaction PackingLaws says which it gives);
--            a refusal changes nothing
use Rattle.std.specs.Prelude.{◌≡◌, ℕ, ◌<◌, Bool, true, false, ◌&&◌, ◌||◌, List, [], ◌∷◌, Some, None, Option, ◌==◌, nat_lt}
use Rattle.cells.specs.Cells.{Shown}
use Rattle.cells.specs.Kinds.{Kind}
use Rattle.cells.specs.Refusals.{number, first_of}
use Rattle.cells.specs.declared.refusal.Refusal.{Refusal}
use Rattle.cells.specs.Words.{word_refusals}
use Rattle.splitters.specs.Graphemes.{grapheme_refusals}
use Rattle.splitters.specs.Splits.{Splits}
use Rattle.rows.specs.Rows.{State, Room}
use Rattle.rows.specs.Calls.{Call, Refused, refusals, refusal, outcome, step, packs}

abbrev pub fits : ℕ → List (Bool × Refusal) → Bool
fits n [] = false
fits n (w ∷ ws) = (number w.1 == n && w.0) || fits n ws

abbrev pub ascends_from : ℕ → List (Bool × Refusal) → Bool
ascends_from n [] = true
ascends_from n (w ∷ ws) = nat_lt n (number w.1) && ascends_from (number w.1) ws

abbrev pub ascends : List (Bool × Refusal) → Bool
ascends whys = ascends_from 0 whys

pub record Smallest (whys : List (Bool × Refusal)) : Type 0 where
  pub holds : (why : Refusal) → first_of whys ≡ Some why → fits (number why) whys ≡ true
  pub no_smaller : (why : Refusal) → first_of whys ≡ Some why → (n : ℕ) → n < number why → fits n whys ≡ false
  pub given : (why : Refusal) → fits (number why) whys ≡ true → ((n : ℕ) → n < number why → fits n whys ≡ false) → first_of whys ≡ Some why
  pub none_holds : first_of whys ≡ None → (n : ℕ) → fits n whys ≡ false
  pub none_given : ((n : ℕ) → fits n whys ≡ false) → first_of whys ≡ None

pub record Choosing {A : Type 0} (k : Kind A) (p : Splits) (room : Room) (rule : List (Shown A) → Shown A → Option Refusal) : Type 0 where
  pub smallest : (whys : List (Bool × Refusal)) → ascends whys ≡ true → Smallest whys
  pub ascending : (s : State A) (c : Call A) → ascends (refusals k p room s c) ≡ true
  pub words : (t : List ℕ) (width : ℕ) → ascends (word_refusals t width) ≡ true
  pub graphemes : (t : List ℕ) (given : Option ℕ) → ascends (grapheme_refusals p t given) ≡ true
  pub says : (s : State A) (c : Call A) → packs c ≡ false → refusal k p room rule s c ≡ first_of (refusals k p room s c)
  pub refused : (s : State A) (c : Call A) (why : Refusal) → refusal k p room rule s c ≡ Some why → outcome k p room rule s c ≡ Refused why
  pub unchanged : (s : State A) (c : Call A) (why : Refusal) → refusal k p room rule s c ≡ Some why → step k p room s c ≡ s

abbrev pub Chooses : Type 0 → Type 0
Chooses K = (k : Kind K) (p : Splits) (room : Room) (rule : List (Shown K) → Shown K → Option Refusal) → Choosing k p room rule
