-- The ten edits: what each is refused for, in the order of the numbers, and what it leaves.
-- becomes        other columns, unless refused, with the number raised
-- set_columns    the columns that `set_cell` makes
-- made_room      the columns into which `insert_cell` puts its cell: where the margin is at most the length, the column before it goes;
--                then they are filled with plain blanks up to x
-- parts_wide     whether a step would part a wide cell's second column from its first: the column before the margin is a second one,
--                or x is one where the cell is put in
-- some_cell      a row with no cell first gets a plain blank
-- from_text, set_cell, insert_cell, erase_cell, remove_cell, prune_trailing_blanks, resize, set_last_cell_was_wrapped, append_line
--                what the call of that name does
-- split_first, split_second   what `split_off` does to the row, and to the second row, whose room is given
-- text_refusals, set_refusals, .. what refuses the call, in the order of the numbers
use Rattle.std.specs.Prelude.{ℕ, ◌+◌, ◌-◌, Bool, cond, not, ◌&&◌, ◌||◌, List, [], ◌∷◌, ◌++◌, length, take, drop, None, ◌==◌, nat_le, nat_lt}
use Rattle.cells.specs.Cells.{Shown, plain_blank, is_plain}
use Rattle.cells.specs.Kinds.{Kind}
use Rattle.cells.specs.Refusals.{first_of}
use Rattle.cells.specs.declared.refusal.Refusal.{Refusal}
use Rattle.cells.specs.declared.refusal.Refusal.TheVariants.{NotGood, TooLong, MarginZero, PastCapacity, PartsWide, TooSmall}
use Rattle.splitters.specs.Splits.{Splits}
use Rattle.splitters.specs.Pieces.{pieces}
use Rattle.rows.specs.Lists.{span}
use Rattle.rows.specs.Spread.{spread}
use Rattle.rows.specs.Columns.{shown, inside, blanked, padded, without, over, between}
use Rattle.rows.specs.Rows.{State, Room, Edit, raised, stays, passes}
use Rattle.rows.specs.Lasts.{flag_cell, on_last}
use Rattle.rows.specs.Trims.{up_to_last, not_plain}
use Rattle.rows.specs.Givens.{cell_refusals, cells_of, any_long}

abbrev pub becomes : {A : Type 0} → List (Bool × Refusal) → List (Shown A) → ℕ → State A → Edit A
becomes whys cols seqno s = record { refusal = first_of whys; cells = shown cols; number = raised seqno s }

-- from_text: the row is emptied, its number set, one cleaned cell appended for each piece
abbrev pub text_refusals : {A : Type 0} → Splits → Room → List ℕ → A → List (Bool × Refusal)
text_refusals p room t a =
    (not (p.good t), NotGood) ∷ (any_long (pieces p.first t), TooLong) ∷ (passes room (span (cells_of p a t)), PastCapacity) ∷ []

abbrev pub from_text : {A : Type 0} → Splits → Room → List ℕ → A → ℕ → Edit A
from_text p room t a seqno = record { refusal = first_of (text_refusals p room t a); cells = cells_of p a t; number = seqno }

-- set_cell: past the end a plain blank adds no column; else filled up to x, a wide cell that starts in the column before x blanked, the cell's columns over those there
abbrev pub set_refusals : {A : Type 0} → Splits → Room → ℕ → Shown A → List (Bool × Refusal)
set_refusals p room x c = cell_refusals p c ++ ((passes room (x + c.width), PastCapacity) ∷ [])

abbrev pub set_columns : {A : Type 0} → Kind A → ℕ → Shown A → List (Shown A) → List (Shown A)
set_columns k x c cols = cond (nat_lt (length cols) x && is_plain k c) cols (over x c (blanked x (padded k x cols)))

abbrev pub set_cell : {A : Type 0} → Kind A → Splits → Room → ℕ → Shown A → ℕ → State A → Edit A
set_cell k p room x c seqno s = becomes (set_refusals p room x c) (set_columns k x c (spread s.cells)) seqno s

-- insert_cell
abbrev pub made_room : {A : Type 0} → Kind A → ℕ → ℕ → List (Shown A) → List (Shown A)
made_room k x margin cols = padded k x (cond (nat_le margin (length cols)) (without (margin - 1) cols) cols)

abbrev pub parts_wide : {A : Type 0} → Kind A → ℕ → ℕ → List (Shown A) → Bool
parts_wide k x margin cols = (nat_le margin (length cols) && inside (margin - 1) cols) || inside x (made_room k x margin cols)

abbrev pub insert_refusals : {A : Type 0} → Kind A → Splits → Room → ℕ → Shown A → ℕ → List (Shown A) → List (Bool × Refusal)
insert_refusals k p room x c margin cols =
    cell_refusals p c
    ++ (((margin == 0), MarginZero)
    ∷ (passes room (length (made_room k x margin cols) + c.width), PastCapacity)
    ∷ (parts_wide k x margin cols, PartsWide)
    ∷ [])

abbrev pub insert_cell : {A : Type 0} → Kind A → Splits → Room → ℕ → Shown A → ℕ → ℕ → State A → Edit A
insert_cell k p room x c margin seqno s =
    becomes (insert_refusals k p room x c margin (spread s.cells)) (between x c (made_room k x margin (spread s.cells))) seqno s

-- remove_cell and erase_cell: nothing at or past the end; else a wide cell that starts in the column before x is blanked, and column x goes
abbrev pub remove_cell : {A : Type 0} → ℕ → ℕ → State A → Edit A
remove_cell x seqno s =
    cond (nat_lt x (length (spread s.cells))) (becomes [] (without x (blanked x (spread s.cells))) seqno s) (stays s)

abbrev pub erase_cell : {A : Type 0} → Kind A → ℕ → ℕ → State A → Edit A
erase_cell k x seqno s =
    cond (nat_lt x (length (spread s.cells))) (becomes [] (without x (blanked x (spread s.cells)) ++ (plain_blank k ∷ [])) seqno s) (stays s)

-- prune_trailing_blanks: the number is raised only if a cell was dropped
abbrev pub prune_trailing_blanks : {A : Type 0} → Kind A → ℕ → State A → Edit A
prune_trailing_blanks k seqno s = record {
  refusal = None;
  cells = up_to_last (not_plain k) s.cells;
  number = cond (nat_lt (length (up_to_last (not_plain k) s.cells)) (length s.cells)) (raised seqno s) s.number;
}

-- resize
abbrev pub resize_refusals : {A : Type 0} → Room → ℕ → List (Shown A) → List (Bool × Refusal)
resize_refusals room width cols = (passes room width, PastCapacity) ∷ (inside width cols, PartsWide) ∷ []

abbrev pub resize : {A : Type 0} → Kind A → Room → ℕ → ℕ → State A → Edit A
resize k room width seqno s =
    becomes (resize_refusals room width (spread s.cells)) (padded k width (take width (spread s.cells))) seqno s

-- set_last_cell_was_wrapped: the flag of the last shown cell
abbrev pub some_cell : {A : Type 0} → Kind A → List (Shown A) → List (Shown A)
some_cell k [] = plain_blank k ∷ []
some_cell k (c ∷ cs) = c ∷ cs

abbrev pub flag_refusals : {A : Type 0} → Kind A → Room → List (Shown A) → List (Bool × Refusal)
flag_refusals k room cells = (passes room (span (some_cell k cells)), PastCapacity) ∷ []

abbrev pub set_last_cell_was_wrapped : {A : Type 0} → Kind A → Room → Bool → ℕ → State A → Edit A
set_last_cell_was_wrapped k room on seqno s = record {
  refusal = first_of (flag_refusals k room s.cells);
  cells = on_last (flag_cell k on) (some_cell k s.cells);
  number = raised seqno s;
}

-- append_line
abbrev pub append_refusals : {A : Type 0} → Room → List (Shown A) → List (Shown A) → List (Bool × Refusal)
append_refusals room cells more = (passes room (span cells + span more), PastCapacity) ∷ []

abbrev pub append_line : {A : Type 0} → Room → List (Shown A) → ℕ → State A → Edit A
append_line room more seqno s =
    record { refusal = first_of (append_refusals room s.cells more); cells = s.cells ++ more; number = raised seqno s }

-- split_off: the columns from idx on go into a second row with the number given; the first keeps its own
abbrev pub split_refusals : {A : Type 0} → Room → ℕ → List (Shown A) → List (Bool × Refusal)
split_refusals second idx cols = (inside idx cols, PartsWide) ∷ (passes second (length cols - idx), TooSmall) ∷ []

abbrev pub split_first : {A : Type 0} → Room → ℕ → State A → Edit A
split_first second idx s =
    record { refusal = first_of (split_refusals second idx (spread s.cells)); cells = shown (take idx (spread s.cells)); number = s.number }

abbrev pub split_second : {A : Type 0} → Room → ℕ → ℕ → State A → Edit A
split_second second idx seqno s =
    record { refusal = first_of (split_refusals second idx (spread s.cells)); cells = shown (drop idx (spread s.cells)); number = seqno }
