-- What a store means, and what its calls do.
-- Held         the shown cells of a store, and the fixed sizes of its memory
-- panel_of     what a store means, put together from what it holds and its number
-- state_of     the same without the sizes
-- Does         a call was made on a store: its answer, and the store after it
-- append_cell  what adding a cell does that another row holds: the rule alone refuses it
use Rattle.std.specs.Prelude.{ℕ, List, [], ◌∷◌, ◌++◌, Option, Result}
use Rattle.cells.specs.Cells.{Shown}
use Rattle.cells.specs.declared.refusal.Refusal.{Refusal}
use Rattle.rows.specs.Rows.{State, Panel, state, Edit, Done}

pub record Held (A : Type 0) : Type 0 where
  pub cells : List (Shown A)
  pub sizes : List ℕ

abbrev pub panel_of : {S A : Type 0} → (S → Held A) → (S → ℕ) → S → Panel A
panel_of row number s = record { cells = (row s).cells; number = number s; sizes = (row s).sizes }

abbrev pub state_of : {S A : Type 0} → (S → Held A) → (S → ℕ) → S → State A
state_of row number s = state (panel_of row number s)

abbrev pub Does : {S A : Type 0} → (S → Held A) → (S → ℕ) → (State A → Edit A) → S → Result (Unit {0}) Refusal → S → Type 0
Does row number edit before answer after =
    Done (edit (state_of row number before)) (panel_of row number before) answer (panel_of row number after)

abbrev pub append_cell : {A : Type 0} → (List (Shown A) → Shown A → Option Refusal) → Shown A → State A → Edit A
append_cell rule c s = record { refusal = rule s.cells c; cells = s.cells ++ (c ∷ []); number = s.number }
