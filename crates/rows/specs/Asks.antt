-- The questions to a row as values, and what each answers. `wrap` is one: it leaves the row, and fills a second one.
-- Question      a question with its arguments: of `columns_as_str` the range and the memory's size, of `compute_zones` the memory's size,
--               of equality the other row, of `wrap` the second row's room, which row, the width and the number
-- Reply         what a question answers, and all that it writes
-- ask_refusals  what refuses it, in the order of the numbers
-- reply         what it answers and writes where it is not refused
use Rattle.std.specs.Prelude.{ℕ, Bool, List, [], Option}
use Rattle.std.specs.List.{slice_get}
use Rattle.cells.specs.Kinds.{Kind}
use Rattle.cells.specs.declared.refusal.Refusal.{Refusal}
use Rattle.rows.specs.Lists.{span}
use Rattle.rows.specs.Spread.{Placed, placed}
use Rattle.rows.specs.Rows.{State, Room}
use Rattle.rows.specs.Writing.{write_refusals}
use Rattle.rows.specs.Questions.{texts_within, equal_rows}
use Rattle.rows.specs.Zones.{Zone, zones}
use Rattle.rows.specs.Wraps.{greedy, wrapped, wrap_count, wrap_refusals, wrap}

pub data Question (A : Type 0) : Type 0 where
  Length : Question A
  Number : Question A
  Capacity : Question A
  NthCell : ℕ → Question A
  ColumnsAsStr : ℕ → ℕ → ℕ → Question A
  ComputeZones : ℕ → Question A
  Equals : State A → Question A
  Wrap : Room → ℕ → ℕ → ℕ → Question A

pub data Reply (A : Type 0) : Type 0 where
  Counted : ℕ → Reply A
  Found : Option (Placed A) → Reply A
  Texts : List ℕ → Reply A
  Zones : List Zone → Reply A
  Same : Bool → Reply A
  Wrapped : ℕ → State A → Reply A

abbrev pub ask_refusals : {A : Type 0} → Kind A → State A → Question A → List (Bool × Refusal)
ask_refusals k s Length = []
ask_refusals k s Number = []
ask_refusals k s Capacity = []
ask_refusals k s (NthCell n) = []
ask_refusals k s (ColumnsAsStr start end size) = write_refusals size (texts_within start end s.cells)
ask_refusals k s (ComputeZones size) = write_refusals size (zones k s.cells)
ask_refusals k s (Equals other) = []
ask_refusals k s (Wrap second at width seqno) = wrap_refusals second at (wrapped greedy k width s.cells)

abbrev pub reply : {A : Type 0} → Kind A → Room → State A → Question A → Reply A
reply k room s Length = Counted (span s.cells)
reply k room s Number = Counted s.number
reply k room s Capacity = Counted room.capacity
reply k room s (NthCell n) = Found (slice_get (placed s.cells) n)
reply k room s (ColumnsAsStr start end size) = Texts (texts_within start end s.cells)
reply k room s (ComputeZones size) = Zones (zones k s.cells)
reply k room s (Equals other) = Same (equal_rows k s other)
reply k room s (Wrap second at width seqno) =
    Wrapped (wrap_count greedy k width s.cells) (record { cells = (wrap greedy k second at width seqno s).cells; number = (wrap greedy k second at width seqno s).number })
