-- The laws of wrapping: over any kind and any cells, at every width, 0 too.
-- Trimmed      what is left out behind kept ones: all that is left out fails the test, and the last that is kept passes it
-- Trimming     that is so of a list up to the last that passes, by any test
-- Rejoined     wrapped rows are a cutting of the trimmed cells with the flag set at the end of all but the final one, and each fits or is one cell
-- Rejoins      that is so by any proper cut, where a cell is no space
-- Least        no cutting of the trimmed cells into rows that fit or are one cell has fewer rows;
--              a new row begins exactly when the current one has a cell and the next would pass the width; that rule leaves no other rows
-- GreedyRows  that is so by the greedy cut, which is proper, where a cell is no space
-- Unchanged    there is one row, and the second row gets the cells and the number as they stand
-- Alone        that is so by any cut, where all cells are spaces or there is none
-- Answered     8 where there is no such row, else 9 where it passes the second row's capacity, else no refusal;
--              the second row gets the number given, where a cell is no space
-- Answers      that is so of each call
use Rattle.std.specs.Prelude.{◌≡◌, ℕ, ◌<◌, ◌≤◌, Bool, true, false, List, [], ◌++◌, length, Some, None, slice_index_or}
use Rattle.std.specs.List.{AllByRecursion}
use Rattle.cells.specs.Cells.{Shown}
use Rattle.cells.specs.Kinds.{Kind}
use Rattle.cells.specs.Words.{is_space}
use Rattle.cells.specs.declared.refusal.Refusal.TheVariants.{NoSuchRow, TooSmall}
use Rattle.rows.specs.Cuttings.{Cutting, FitsOrOne, Breaks}
use Rattle.rows.specs.Lists.{span, last_of}
use Rattle.rows.specs.Rows.{State, Room, Edit}
use Rattle.rows.specs.Trims.{any, up_to_last, no_space}
use Rattle.rows.specs.Wraps.{trimmed, Cut, Proper, greedy, flag_ends, wrapped, wrap_count, wrap}

pub record Trimmed {X : Type 0} (test : X → Bool) (xs kept : List X) : Type 0 where
  pub dropped : List X
  pub joins : kept ++ dropped ≡ xs
  pub fail : AllByRecursion (λ x. test x ≡ false) dropped
  pub ends : (x : X) → last_of kept ≡ Some x → test x ≡ true
  pub some : any test xs ≡ true → 0 < length kept

abbrev pub Trimming : Type 0 → Type 0
Trimming A = (test : Shown A → Bool) (cs : List (Shown A)) → Trimmed test cs (up_to_last test cs)

pub record Rejoined {A : Type 0} (k : Kind A) (width : ℕ) (cs : List (Shown A)) (wraps : List (List (Shown A))) : Type 0 where
  pub rows : List (List (Shown A))
  pub cutting : Cutting (trimmed cs) rows
  pub flags : wraps ≡ flag_ends k rows
  pub fits : AllByRecursion (FitsOrOne width) wraps

abbrev pub Rejoins : Type 0 → Type 0
Rejoins A = (cut : Cut A) → Proper cut → (k : Kind A) (width : ℕ) (cs : List (Shown A)) → any no_space cs ≡ true
    → Rejoined k width cs (wrapped cut k width cs)

pub record Least {A : Type 0} (k : Kind A) (width : ℕ) (cs : List (Shown A)) (wraps : List (List (Shown A))) : Type 0 where
  pub fewest : (rows : List (List (Shown A))) → Cutting (trimmed cs) rows → AllByRecursion (FitsOrOne width) rows → length wraps ≤ length rows
  pub breaks : Breaks width wraps
  pub only : (rows : List (List (Shown A))) → Cutting (trimmed cs) rows → Breaks width rows → wraps ≡ flag_ends k rows

pub record GreedyRows (A : Type 0) : Type 0 where
  pub proper : Proper {A = A} greedy
  pub least : (k : Kind A) (width : ℕ) (cs : List (Shown A)) → any no_space cs ≡ true → Least k width cs (wrapped greedy k width cs)

pub record Unchanged {A : Type 0} (s : State A) (count : ℕ) (second : Edit A) : Type 0 where
  pub alone : count ≡ 1
  pub cells : second.cells ≡ s.cells
  pub number : second.number ≡ s.number

abbrev pub Alone : Type 0 → Type 0
Alone A = (cut : Cut A) (k : Kind A) (room : Room) (width seqno : ℕ) (s : State A) → AllByRecursion (λ c. is_space c.text ≡ true) s.cells
    → Unchanged s (wrap_count cut k width s.cells) (wrap cut k room 0 width seqno s)

pub record Answered {A : Type 0} (room : Room) (at seqno : ℕ) (s : State A) (rows : List (List (Shown A))) (second : Edit A) : Type 0 where
  pub number : any no_space s.cells ≡ true → second.number ≡ seqno
  pub no_row : length rows ≤ at → second.refusal ≡ Some NoSuchRow
  pub small : at < length rows → room.capacity < span (slice_index_or rows at []) → second.refusal ≡ Some TooSmall
  pub accepted : at < length rows → span (slice_index_or rows at []) ≤ room.capacity → second.refusal ≡ None

abbrev pub Answers : Type 0 → Type 0
Answers A = (cut : Cut A) (k : Kind A) (room : Room) (at width seqno : ℕ) (s : State A)
    → Answered room at seqno s (wrapped cut k width s.cells) (wrap cut k room at width seqno s)
