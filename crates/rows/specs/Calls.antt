-- The calls as values, what each does and answers, and lists of calls.
-- Change    a call that edits a row alone, with its arguments
-- Call      a call with its arguments: an edit; `append_line` with another row; `split_off` with the second row's room; a question; compaction; expansion
-- Outcome   what a call answers and writes: a refusal; nothing more; a second row; a reply
-- change_refusals, refusals    what refuses a call, in the order of the numbers; of compaction `compaction` says it, however the row is held:
--           what a store holds already, it took one by one, so that putting it there again is refused by nothing
-- change, edit                 what a call does to the row
-- step      the state that a call leaves
-- accepted  what a call that is not refused answers and writes
-- refusal, outcome             what a call is refused for, and what it answers and writes, where the row's store takes by a rule
-- after     the state that a list of calls leaves
-- told      what a list of calls answers, call by call
-- packs     whether a call is a compaction or an expansion
-- struck    the calls without compactions and expansions
-- heard     what is told, without what those tell
-- new_row   a new row: no cell, and the number given
-- given     the cells that a caller gives with a call
use Rattle.std.specs.Prelude.{ℕ, Bool, true, false, cond, List, [], ◌∷◌, ◌++◌, Some, None, Option}
use Rattle.cells.specs.Cells.{Shown}
use Rattle.cells.specs.Kinds.{Kind}
use Rattle.cells.specs.Refusals.{first_of}
use Rattle.cells.specs.declared.refusal.Refusal.{Refusal}
use Rattle.splitters.specs.Splits.{Splits}
use Rattle.rows.specs.Spread.{spread}
use Rattle.rows.specs.Rows.{State, Room, Edit, left, stays}
use Rattle.rows.specs.Givens.{cell_refusals}
use Rattle.rows.specs.Edits.{from_text, set_cell, insert_cell, erase_cell, remove_cell, prune_trailing_blanks, resize, set_last_cell_was_wrapped, append_line, split_first, split_second, text_refusals, set_refusals, insert_refusals, resize_refusals, flag_refusals, append_refusals, split_refusals}
use Rattle.rows.specs.Packing.{emptied, drop_last, take_cell, grid_refusals, grid_rule, compaction}
use Rattle.rows.specs.Asks.{Question, Reply, ask_refusals, reply}

pub data Change (A : Type 0) : Type 0 where
  FromText : List ℕ → A → ℕ → Change A
  SetCell : ℕ → Shown A → ℕ → Change A
  InsertCell : ℕ → Shown A → ℕ → ℕ → Change A
  EraseCell : ℕ → ℕ → Change A
  RemoveCell : ℕ → ℕ → Change A
  PruneTrailingBlanks : ℕ → Change A
  Resize : ℕ → ℕ → Change A
  SetLastCellWasWrapped : Bool → ℕ → Change A
  Clear : Change A
  DropLast : Change A
  Take : Shown A → Change A

pub data Call (A : Type 0) : Type 0 where
  Alter : Change A → Call A
  AppendLine : State A → ℕ → Call A
  SplitOff : Room → ℕ → ℕ → Call A
  Ask : Question A → Call A
  Compact : Call A
  Expand : Call A

pub data Outcome (A : Type 0) : Type 0 where
  Refused : Refusal → Outcome A
  Accepted : Outcome A
  Moved : State A → Outcome A
  Replied : Reply A → Outcome A

abbrev pub settled : {A : Type 0} → Option Refusal → Outcome A → Outcome A
settled (Some why) o = Refused why
settled None o = o

module _ {A : Type 0} (k : Kind A) (p : Splits) (room : Room) where
  abbrev pub change_refusals : State A → Change A → List (Bool × Refusal)
  change_refusals s (FromText t a seqno) = text_refusals p room t a
  change_refusals s (SetCell x c seqno) = set_refusals p room x c
  change_refusals s (InsertCell x c margin seqno) = insert_refusals k p room x c margin (spread s.cells)
  change_refusals s (EraseCell x seqno) = []
  change_refusals s (RemoveCell x seqno) = []
  change_refusals s (PruneTrailingBlanks seqno) = []
  change_refusals s (Resize width seqno) = resize_refusals room width (spread s.cells)
  change_refusals s (SetLastCellWasWrapped on seqno) = flag_refusals k room s.cells
  change_refusals s Clear = []
  change_refusals s DropLast = []
  change_refusals s (Take c) = cell_refusals p c ++ grid_refusals room s.cells c

  abbrev pub refusals : State A → Call A → List (Bool × Refusal)
  refusals s (Alter c) = change_refusals s c
  refusals s (AppendLine other seqno) = append_refusals room s.cells other.cells
  refusals s (SplitOff second idx seqno) = split_refusals second idx (spread s.cells)
  refusals s (Ask question) = ask_refusals k s question
  refusals s Compact = []
  refusals s Expand = []

  abbrev pub change : State A → Change A → Edit A
  change s (FromText t a seqno) = from_text p room t a seqno
  change s (SetCell x c seqno) = set_cell k p room x c seqno s
  change s (InsertCell x c margin seqno) = insert_cell k p room x c margin seqno s
  change s (EraseCell x seqno) = erase_cell k x seqno s
  change s (RemoveCell x seqno) = remove_cell x seqno s
  change s (PruneTrailingBlanks seqno) = prune_trailing_blanks k seqno s
  change s (Resize width seqno) = resize k room width seqno s
  change s (SetLastCellWasWrapped on seqno) = set_last_cell_was_wrapped k room on seqno s
  change s Clear = emptied s
  change s DropLast = drop_last s
  change s (Take c) = take_cell p (grid_rule room) c s

  abbrev pub edit : State A → Call A → Edit A
  edit s (Alter c) = change s c
  edit s (AppendLine other seqno) = append_line room other.cells seqno s
  edit s (SplitOff second idx seqno) = split_first second idx s
  edit s (Ask question) = stays s
  edit s Compact = stays s
  edit s Expand = stays s

  abbrev pub step : State A → Call A → State A
  step s c = left (edit s c) s

  abbrev pub after : State A → List (Call A) → State A
  after s [] = s
  after s (c ∷ cs) = after (step s c) cs

  abbrev pub accepted : State A → Call A → Outcome A
  accepted s (Alter c) = Accepted
  accepted s (AppendLine other seqno) = Accepted
  accepted s (SplitOff second idx seqno) = Moved (record { cells = (split_second second idx seqno s).cells; number = seqno })
  accepted s (Ask question) = Replied (reply k room s question)
  accepted s Compact = Accepted
  accepted s Expand = Accepted

  module _ (rule : List (Shown A) → Shown A → Option Refusal) where
    abbrev pub refusal : State A → Call A → Option Refusal
    refusal s (Alter c) = (change s c).refusal
    refusal s (AppendLine other seqno) = (append_line room other.cells seqno s).refusal
    refusal s (SplitOff second idx seqno) = (split_first second idx s).refusal
    refusal s (Ask question) = first_of (ask_refusals k s question)
    refusal s Compact = compaction p rule s.cells
    refusal s Expand = None

    abbrev pub outcome : State A → Call A → Outcome A
    outcome s c = settled (refusal s c) (accepted s c)

    abbrev pub told : State A → List (Call A) → List (Outcome A)
    told s [] = []
    told s (c ∷ cs) = outcome s c ∷ told (step s c) cs

abbrev pub packs : {A : Type 0} → Call A → Bool
packs (Alter c) = false
packs (AppendLine other seqno) = false
packs (SplitOff second idx seqno) = false
packs (Ask question) = false
packs Compact = true
packs Expand = true

abbrev pub struck : {A : Type 0} → List (Call A) → List (Call A)
struck [] = []
struck (c ∷ cs) = cond (packs c) (struck cs) (c ∷ struck cs)

abbrev pub heard : {A : Type 0} → List (Call A) → List (Outcome A) → List (Outcome A)
heard [] os = []
heard (c ∷ cs) [] = []
heard (c ∷ cs) (o ∷ os) = cond (packs c) (heard cs os) (o ∷ heard cs os)

abbrev pub new_row : {A : Type 0} → ℕ → State A
new_row n = record { cells = []; number = n }

abbrev pub given_change : {A : Type 0} → Change A → List (Shown A)
given_change (FromText t a seqno) = []
given_change (SetCell x c seqno) = c ∷ []
given_change (InsertCell x c margin seqno) = c ∷ []
given_change (EraseCell x seqno) = []
given_change (RemoveCell x seqno) = []
given_change (PruneTrailingBlanks seqno) = []
given_change (Resize width seqno) = []
given_change (SetLastCellWasWrapped on seqno) = []
given_change Clear = []
given_change DropLast = []
given_change (Take c) = c ∷ []

abbrev pub given : {A : Type 0} → Call A → List (Shown A)
given (Alter c) = given_change c
given (AppendLine other seqno) = other.cells
given (SplitOff second idx seqno) = []
given (Ask question) = []
given Compact = []
given Expand = []
