-- What holds of every row: widths, columns, capacity.
-- Sized         a cell's width is 1 or 2, and of a space 1; so it is of every cell that code holds
-- Bounded       cells of such widths that do not pass the capacity
-- ReadingBack  columns and cells say the same: the laws of `spread`, `shown`, lengths and places
-- StaysWhole   every edit that is said of columns makes whole columns of whole ones, unless it is refused
-- StaysWithin  every call leaves a row within its capacity, and so does any list of calls; `split_off` and `wrap` leave a second row within its own
use Rattle.std.specs.Prelude.{◌≡◌, ℕ, ◌+◌, ◌<◌, ◌≤◌, true, false, List, [], ◌∷◌, ◌++◌, length, take, drop, Some, None, slice_index_or}
use Rattle.std.specs.List.{AllByRecursion, slice_get}
use Rattle.cells.specs.Cells.{Shown, meaning, blank_with, plain_blank}
use Rattle.cells.specs.declared.cell.Cell.{Cell}
use Rattle.cells.specs.Kinds.{Kind}
use Rattle.cells.specs.Refusals.{first_of}
use Rattle.cells.specs.Words.{bad_width}
use Rattle.splitters.specs.Splits.{Splits}
use Rattle.rows.specs.Lists.{span}
use Rattle.rows.specs.Spread.{wide, spread, placed}
use Rattle.rows.specs.Columns.{shown, Whole, column_of, inside, blanked, padded, without, between}
use Rattle.rows.specs.Rows.{State, Room}
use Rattle.rows.specs.Edits.{set_columns, made_room, insert_refusals, resize_refusals, split_refusals, split_second}
use Rattle.rows.specs.Wraps.{greedy, wrap}
use Rattle.rows.specs.Calls.{Call, given, step, after}

abbrev pub Sized : {A : Type 0} → Shown A → Type 0
Sized c = bad_width c.text c.width ≡ false

pub record Bounded {A : Type 0} (room : Room) (cells : List (Shown A)) : Type 0 where
  pub sized : AllByRecursion Sized cells
  pub within : span cells ≤ room.capacity

pub record ReadingBack (A : Type 0) : Type 0 where
  pub sized : (c : Cell A) → Sized (meaning c)
  pub shown_spread : (cells : List (Shown A)) → shown (spread cells) ≡ cells
  pub whole : (cells : List (Shown A)) → Whole (spread cells)
  pub length_spread : (cells : List (Shown A)) → AllByRecursion Sized cells → length (spread cells) ≡ span cells
  -- the n-th cell stands in its column, which is no second one; behind a wide one stands its hidden column; there is none past the last
  pub nth_placed : (cells : List (Shown A)) (n : ℕ) (d : Shown A) → n < length cells
      → slice_get (placed cells) n ≡ Some (record { column = column_of n cells; cell = slice_index_or cells n d })
  pub none_placed : (cells : List (Shown A)) (n : ℕ) → length cells ≤ n → slice_get (placed cells) n ≡ None
  pub stands : (cells : List (Shown A)) (n : ℕ) (d : Shown A) → AllByRecursion Sized cells → n < length cells → slice_index_or (spread cells) (column_of n cells) d ≡ slice_index_or cells n d
  pub hides : (cells : List (Shown A)) (n : ℕ) (d : Shown A) → AllByRecursion Sized cells → n < length cells → wide (slice_index_or cells n d) ≡ true
      → slice_index_or (spread cells) (column_of n cells + 1) d ≡ blank_with (slice_index_or cells n d).attrs
  pub starts : (cells : List (Shown A)) (n : ℕ) → AllByRecursion Sized cells → inside (column_of n cells) (spread cells) ≡ false
  pub seconds : (cells : List (Shown A)) (n : ℕ) (d : Shown A) → AllByRecursion Sized cells → n < length cells → inside (column_of n cells + 1) (spread cells) ≡ wide (slice_index_or cells n d)

pub record StaysWhole {A : Type 0} (k : Kind A) (p : Splits) (room : Room) (cols : List (Shown A)) : Type 0 where
  pub set : (x : ℕ) (c : Shown A) → Whole (set_columns k x c cols)
  pub insert : (x margin : ℕ) (c : Shown A) → first_of (insert_refusals k p room x c margin cols) ≡ None → Whole (between x c (made_room k x margin cols))
  pub remove : (x : ℕ) → Whole (without x (blanked x cols))
  pub erase : (x : ℕ) → Whole (without x (blanked x cols) ++ (plain_blank k ∷ []))
  pub resize : (width : ℕ) → first_of (resize_refusals room width cols) ≡ None → Whole (padded k width (take width cols))
  pub append : (more : List (Shown A)) → Whole more → Whole (cols ++ more)
  pub split_first : (idx : ℕ) → first_of (split_refusals room idx cols) ≡ None → Whole (take idx cols)
  pub split_second : (idx : ℕ) → Whole (drop idx cols)

pub record StaysWithin {A : Type 0} (k : Kind A) (p : Splits) (room : Room) : Type 0 where
  pub call : (s : State A) (c : Call A) → AllByRecursion Sized (given c) → Bounded room s.cells → Bounded room (step k p room s c).cells
  pub calls : (s : State A) (cs : List (Call A)) → AllByRecursion (λ c. AllByRecursion Sized (given c)) cs → Bounded room s.cells → Bounded room (after k p room s cs).cells
  pub second : (s : State A) (idx seqno : ℕ) → first_of (split_refusals room idx (spread s.cells)) ≡ None → AllByRecursion Sized s.cells
      → Bounded room (split_second room idx seqno s).cells
  pub wrapped_row : (s : State A) (at width seqno : ℕ) → (wrap greedy k room at width seqno s).refusal ≡ None → AllByRecursion Sized s.cells
      → Bounded room (wrap greedy k room at width seqno s).cells

abbrev pub KeepsWhole : Type 0 → Type 0
KeepsWhole K = (k : Kind K) (p : Splits) (room : Room) (cols : List (Shown K)) → Whole cols → StaysWhole k p room cols

abbrev pub KeepsWithin : Type 0 → Type 0
KeepsWithin K = (k : Kind K) (p : Splits) (room : Room) → StaysWithin k p room
