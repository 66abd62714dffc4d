-- A line of text as a row on a board.
-- lined       what setting a row to a line does: the text at one number, and then pruned at another
-- line_state  the row that a line becomes where it is not refused
-- come_to     what a line comes to: what measuring it says, or else what refuses its row
-- boarded     what putting a line on a row does; Boarded  it was done
-- board_width how wide a row of so many columns is shown
-- board_text  the texts of cells, filled up with spaces to a width
use Rattle.std.specs.Prelude.{◌≡◌, ℕ, ◌-◌, cond, List, ◌++◌, map, replicate, Some, None, Ok, Err, Option, Result, nat_lt}
use Rattle.cells.specs.Cells.{Shown}
use Rattle.cells.specs.Kinds.{Kind}
use Rattle.cells.specs.Refusals.{first_of}
use Rattle.cells.specs.declared.refusal.Refusal.{Refusal}
use Rattle.splitters.specs.Splits.{Splits}
use Rattle.rows.specs.Edits.{text_refusals, from_text, prune_trailing_blanks}
use Rattle.rows.specs.Lists.{span, joined}
use Rattle.rows.specs.Rows.{State, Room, Panel, Edit, unless}
use Rattle.gauge.specs.Measures.{measured}
use Rattle.gauge.specs.declared.measure.Measure.{Measure}

abbrev pub line_state : {A : Type 0} → Splits → Room → List ℕ → A → ℕ → State A
line_state p room t a seqno = record { cells = (from_text p room t a seqno).cells; number = (from_text p room t a seqno).number }

abbrev pub lined : {A : Type 0} → Kind A → Splits → Room → List ℕ → A → ℕ → ℕ → Edit A
lined k p room t a seqno pruned = record {
  refusal = (from_text p room t a seqno).refusal;
  cells = (prune_trailing_blanks k pruned (line_state p room t a seqno)).cells;
  number = (prune_trailing_blanks k pruned (line_state p room t a seqno)).number;
}

abbrev pub or_refused : Option Refusal → Result Measure Refusal → Result Measure Refusal
or_refused None outcome = outcome
or_refused (Some why) (Ok m) = Err why
or_refused (Some why) (Err first) = Err first

abbrev pub come_to : {A : Type 0} → Splits → Room → A → List ℕ → Result Measure Refusal
come_to p room a t = or_refused (first_of (text_refusals p room t a)) (measured p t)

abbrev pub refusal_of : Result Measure Refusal → Option Refusal
refusal_of (Ok m) = None
refusal_of (Err why) = Some why

-- a row that a line was put on: its cells and number are the line's, pruned, unless the line was refused
abbrev pub boarded : {A : Type 0} → Kind A → Splits → Room → A → List ℕ → ℕ → ℕ → Edit A
boarded k p room a t seqno pruned = record {
  refusal = refusal_of (come_to p room a t);
  cells = (lined k p room t a seqno pruned).cells;
  number = (lined k p room t a seqno pruned).number;
}

pub record Boarded {A : Type 0} (outcome : Result Measure Refusal) (e : Edit A) (before : Panel A) (answer : Result Measure Refusal) (after : Panel A) : Type 0 where
  pub says : answer ≡ outcome
  pub row : after.cells ≡ unless e.refusal before.cells e.cells
  pub change : after.number ≡ unless e.refusal before.number e.number
  pub room : after.sizes ≡ before.sizes

-- a row of so many columns is shown on the door display, else on the laptop, else as it is
abbrev pub board_width : ℕ → ℕ
board_width columns = cond (nat_lt 40 columns) (cond (nat_lt 80 columns) columns 80) 40

abbrev pub board_text : {A : Type 0} → ℕ → List (Shown A) → List ℕ
board_text width cells = joined (map (λ c. c.text) cells) ++ replicate (width - span cells) 0x20
