-- Rows made by calls, and the splitter that they keep to.
-- Piece       a cell's text is good and one piece of the splitter
-- Made        a row made by calls from a new one, with other rows made likewise; so are the second rows of `split_off` and `wrap`
-- Likewise    the row that a call appends, if it does, was made likewise
-- Packer      a store's rule refuses with 10 or 11 only
-- KeepingTo  the cells of such a row are pieces, so that compaction refuses with 10 or 11 only
use Rattle.std.specs.Prelude.{◌≡◌, ℕ, true, ◌⊎◌, List, length, Some, Option}
use Rattle.std.specs.List.{AllByRecursion}
use Rattle.cells.specs.Cells.{Shown}
use Rattle.cells.specs.Kinds.{Kind}
use Rattle.cells.specs.declared.refusal.Refusal.{Refusal}
use Rattle.cells.specs.declared.refusal.Refusal.TheVariants.{Fuses, Full}
use Rattle.splitters.specs.Splits.{Splits}
use Rattle.rows.specs.Rows.{State, Room, left}
use Rattle.rows.specs.Edits.{split_second}
use Rattle.rows.specs.Wraps.{greedy, wrap}
use Rattle.rows.specs.Packing.{compaction, run_rule}
use Rattle.rows.specs.Calls.{Call, Alter, AppendLine, SplitOff, Ask, Compact, Expand, step, after, new_row}

pub record Piece {A : Type 0} (p : Splits) (c : Shown A) : Type 0 where
  pub good : p.good c.text ≡ true
  pub one : p.first c.text ≡ length c.text

-- the row that a call appends, if it does, is this one
abbrev pub Appends : {A : Type 0} → Call A → State A → Type 0
Appends (Alter c) o = Unit {0}
Appends (AppendLine other seqno) o = other ≡ o
Appends (SplitOff second idx seqno) o = Unit {0}
Appends (Ask question) o = Unit {0}
Appends Compact o = Unit {0}
Appends Expand o = Unit {0}

pub data Made {A : Type 0} (k : Kind A) (p : Splits) : State A → Type 0 where
  fresh : (n : ℕ) → Made k p (new_row n)
  called : (room : Room) (s o : State A) (c : Call A) → Made k p s → Made k p o → Appends c o → Made k p (step k p room s c)
  moved : (second : Room) (s : State A) (idx seqno : ℕ) → Made k p s → Made k p (left (split_second second idx seqno s) (new_row seqno))
  filled : (second : Room) (s : State A) (at width seqno : ℕ) → Made k p s → Made k p (left (wrap greedy k second at width seqno s) (new_row seqno))

abbrev pub Likewise : {A : Type 0} → Kind A → Splits → Call A → Type 0
Likewise {A} k p c = (o : State A) × Made k p o × Appends c o

abbrev pub TenOrEleven : Option Refusal → Type 0
TenOrEleven o = (why : Refusal) → o ≡ Some why → (why ≡ Fuses) ⊎ (why ≡ Full)

abbrev pub Packer : {A : Type 0} → (List (Shown A) → Shown A → Option Refusal) → Type 0
Packer {A} rule = (cells : List (Shown A)) (c : Shown A) → TenOrEleven (rule cells c)

pub record KeepingTo {A : Type 0} (k : Kind A) (p : Splits) : Type 0 where
  pub calls : (room : Room) (n : ℕ) (cs : List (Call A)) → AllByRecursion (Likewise k p) cs → Made k p (after k p room (new_row n) cs)
  pub pieces : (s : State A) → Made k p s → AllByRecursion (Piece p) s.cells
  pub compacts : (s : State A) (rule : List (Shown A) → Shown A → Option Refusal) → Made k p s → Packer rule → TenOrEleven (compaction p rule s.cells)
  pub runs : (runs bytes : ℕ) → Packer (run_rule k p runs bytes)

abbrev pub KeepsTo : Type 0 → Type 0
KeepsTo K = (k : Kind K) (p : Splits) → KeepingTo k p
