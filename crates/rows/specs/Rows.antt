-- What a row means, and what a call does to it.
-- State    what a row means: its shown cells and its change number
-- Room     what bounds a row: its capacity in columns
-- Panel    what a store means: a state, and the fixed sizes of its memory
-- state    the state of a panel
-- Edit     what a call does: its refusal if it has one, else the cells and the number that it leaves
-- unless   the one where a call is refused, else the other
-- left     the state that an edit leaves: as before where it is refused
-- Done     the call was made: its answer, and the row after it
-- raised   the number of an accepted call: the given one if that is larger
-- stays    nothing changes
-- passes   whether so many columns would pass the capacity
-- most_columns   the most columns that any row or store holds
use Rattle.std.specs.Prelude.{◌≡◌, ℕ, max, Bool, List, Some, None, Option, Result, nat_lt}
use Rattle.cells.specs.Cells.{Shown}
use Rattle.cells.specs.Refusals.{verdict}
use Rattle.cells.specs.declared.refusal.Refusal.{Refusal}

pub record State (A : Type 0) : Type 0 where
  pub cells : List (Shown A)
  pub number : ℕ

pub record Room : Type 0 where
  pub capacity : ℕ

pub record Panel (A : Type 0) : Type 0 where
  pub cells : List (Shown A)
  pub number : ℕ
  pub sizes : List ℕ

abbrev pub state : {A : Type 0} → Panel A → State A
state s = record { cells = s.cells; number = s.number }

pub record Edit (A : Type 0) : Type 0 where
  pub refusal : Option Refusal
  pub cells : List (Shown A)
  pub number : ℕ

abbrev pub unless : {X : Type 0} → Option Refusal → X → X → X
unless (Some why) before after = before
unless None before after = after

abbrev pub left : {A : Type 0} → Edit A → State A → State A
left e s = record { cells = unless e.refusal s.cells e.cells; number = unless e.refusal s.number e.number }

pub record Done {A : Type 0} (e : Edit A) (before : Panel A) (answer : Result (Unit {0}) Refusal) (after : Panel A) : Type 0 where
  pub says : answer ≡ verdict e.refusal tt
  pub row : after.cells ≡ unless e.refusal before.cells e.cells
  pub change : after.number ≡ unless e.refusal before.number e.number
  pub room : after.sizes ≡ before.sizes

abbrev pub raised : {A : Type 0} → ℕ → State A → ℕ
raised seqno s = max s.number seqno

abbrev pub stays : {A : Type 0} → State A → Edit A
stays s = record { refusal = None; cells = s.cells; number = s.number }

abbrev pub passes : Room → ℕ → Bool
passes room n = nat_lt room.capacity n

abbrev pub most_columns : ℕ
most_columns = 4096
