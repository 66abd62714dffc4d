-- Calls that write into result memory.
-- Writes  of such a call: what refuses it, and what it writes
-- write_refusals  what refuses to write a list into memory of a size
-- writes  the call that would write a list into memory of a size: 9 where the memory is too small
-- told    what it answers: how many it wrote, or the refusal
-- left    what a refusal, or none, leaves in memory
-- memory  the memory afterwards: what was written, then the rest as before; all as before where the call is refused
use Rattle.std.specs.Prelude.{ℕ, Bool, List, [], ◌∷◌, ◌++◌, length, drop, Some, None, Option, Result, nat_lt}
use Rattle.cells.specs.Refusals.{first_of, verdict}
use Rattle.cells.specs.declared.refusal.Refusal.{Refusal}
use Rattle.cells.specs.declared.refusal.Refusal.TheVariants.{TooSmall}

pub record Writes (X : Type 0) : Type 0 where
  pub refusal : Option Refusal
  pub items : List X

abbrev pub write_refusals : {X : Type 0} → ℕ → List X → List (Bool × Refusal)
write_refusals size xs = (nat_lt size (length xs), TooSmall) ∷ []

abbrev pub writes : {X : Type 0} → ℕ → List X → Writes X
writes size xs = record { refusal = first_of (write_refusals size xs); items = xs }

abbrev pub told : {X : Type 0} → Writes X → Result ℕ Refusal
told w = verdict w.refusal (length w.items)

abbrev pub left : {X : Type 0} → Option Refusal → List X → List X → List X
left None xs before = xs ++ drop (length xs) before
left (Some why) xs before = before

abbrev pub memory : {X : Type 0} → Writes X → List X → List X
memory w before = left w.refusal w.items before
