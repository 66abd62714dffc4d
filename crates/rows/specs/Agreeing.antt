-- Calls said of shown cells, and said of columns.
-- Agreeing  joining, pruning, flagging, resizing and splitting say the same of both; a split row joined again is the row
use Rattle.std.specs.Prelude.{◌≡◌, ℕ, ◌-◌, ◌≤◌, min, Bool, false, List, [], ◌∷◌, ◌++◌, map, take, drop, replicate, Some, None}
use Rattle.std.specs.List.{AllByRecursion}
use Rattle.cells.specs.Cells.{Shown, plain_blank, is_plain}
use Rattle.cells.specs.Kinds.{Kind}
use Rattle.cells.specs.Refusals.{first_of}
use Rattle.rows.specs.Lists.{span, last_of}
use Rattle.rows.specs.Trims.{up_to_last, not_plain}
use Rattle.rows.specs.Spread.{columns_of, spread}
use Rattle.rows.specs.Columns.{shown}
use Rattle.rows.specs.Rows.{State, Room, left}
use Rattle.rows.specs.Lasts.{flag_cell, on_last}
use Rattle.rows.specs.Edits.{resize, resize_refusals, append_line, split_refusals, split_first, split_second}
use Rattle.rows.specs.Bounds.{Sized}

pub record Agreeing {A : Type 0} (k : Kind A) (room : Room) : Type 0 where
  pub joins : (cells more : List (Shown A)) → shown (spread cells ++ spread more) ≡ cells ++ more
  -- pruning drops plain blanks, each a column, and leaves none at the end
  pub prunes : (cells : List (Shown A)) → AllByRecursion Sized cells → (n : ℕ)
      × (cells ≡ up_to_last (not_plain k) cells ++ replicate n (plain_blank k))
      × (spread cells ≡ spread (up_to_last (not_plain k) cells) ++ replicate n (plain_blank k))
  pub prunes_all : (cells : List (Shown A)) (c : Shown A) → last_of (up_to_last (not_plain k) cells) ≡ Some c → is_plain k c ≡ false
  -- flagging changes the columns of the last cell, the hidden one too
  pub flags : (cells : List (Shown A)) (c : Shown A) (on : Bool)
      → spread (on_last (flag_cell k on) (cells ++ (c ∷ []))) ≡ spread cells ++ map (flag_cell k on) (columns_of c)
  -- resizing adds plain blanks, or keeps the cells that end within the width
  pub widens : (s : State A) (width seqno : ℕ) → AllByRecursion Sized s.cells → span s.cells ≤ width
      → (resize k room width seqno s).cells ≡ s.cells ++ replicate (width - span s.cells) (plain_blank k)
  pub narrows : (s : State A) (width seqno : ℕ) → AllByRecursion Sized s.cells → width ≤ span s.cells → first_of (resize_refusals room width (spread s.cells)) ≡ None
      → (n : ℕ) × ((resize k room width seqno s).cells ≡ take n s.cells) × (span (take n s.cells) ≡ width)
  pub splits : (s : State A) (idx seqno : ℕ) → AllByRecursion Sized s.cells → first_of (split_refusals room idx (spread s.cells)) ≡ None
      → (n : ℕ) × ((split_first room idx s).cells ≡ take n s.cells) × ((split_second room idx seqno s).cells ≡ drop n s.cells) × (span (take n s.cells) ≡ min idx (span s.cells))
  pub rejoins : (s : State A) (idx seqno : ℕ) → first_of (split_refusals room idx (spread s.cells)) ≡ None
      → (append_line room (split_second room idx seqno s).cells seqno (left (split_first room idx s) s)).cells ≡ s.cells

abbrev pub Agrees : Type 0 → Type 0
Agrees K = (k : Kind K) (room : Room) → Agreeing k room
