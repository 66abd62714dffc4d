-- A store's own calls, and compaction.
-- or_else        the first if it is a refusal, else the second
-- take_refusal   what refuses one more cell: 1 or 2 where it is no piece of the splitter, else the store's rule over its cells and the new one
-- emptied, drop_last, take_cell   what a store's own three calls do
-- grid_refusals, grid_rule   a grid's rule: it admits all that fits its capacity
-- behind         each of a list, with those before it
-- first_some     the first refusal of a list
-- compaction     what refuses to put cells into an empty store: the refusal of the first refused cell
-- fuses_behind   the same behind one cell or none
-- fuses          the first piece of both texts joined is longer than the last cell's text
-- unlike         how many neighbours have unlike attributes
-- runs_needed    how many runs of equal attributes cells need: one more than that, and none for no cell
-- bytes_needed   how many text bytes they need
-- lacks          whether the run store's memory does not suffice for cells: runs, text bytes, or 4,096 columns
-- run_rule       the run store's rule, from its runs and text bytes
use Rattle.std.specs.Prelude.{ℕ, ◌+◌, Bool, false, cond, ◌||◌, List, [], ◌∷◌, ◌++◌, map, length, Some, None, Option, nat_lt}
use Rattle.cells.specs.Cells.{Shown}
use Rattle.cells.specs.Kinds.{Kind}
use Rattle.cells.specs.Refusals.{first_of}
use Rattle.cells.specs.declared.refusal.Refusal.{Refusal}
use Rattle.cells.specs.declared.refusal.Refusal.TheVariants.{Fuses, Full}
use Rattle.splitters.specs.Splits.{Splits}
use Rattle.rows.specs.Lists.{span, last_of}
use Rattle.rows.specs.Rows.{State, Room, Edit, passes, most_columns}
use Rattle.rows.specs.Givens.{cell_refusals}

abbrev pub or_else : Option Refusal → Option Refusal → Option Refusal
or_else (Some why) other = Some why
or_else None other = other

abbrev pub take_refusal : {A : Type 0} → Splits → (List (Shown A) → Shown A → Option Refusal) → List (Shown A) → Shown A → Option Refusal
take_refusal p rule cells c = or_else (first_of (cell_refusals p c)) (rule cells c)

abbrev pub emptied : {A : Type 0} → State A → Edit A
emptied s = record { refusal = None; cells = []; number = s.number }

abbrev pub without_last : {X : Type 0} → List X → List X
without_last [] = []
without_last (x ∷ []) = []
without_last (x ∷ (y ∷ ys)) = x ∷ without_last (y ∷ ys)

abbrev pub drop_last : {A : Type 0} → State A → Edit A
drop_last s = record { refusal = None; cells = without_last s.cells; number = s.number }

abbrev pub take_cell : {A : Type 0} → Splits → (List (Shown A) → Shown A → Option Refusal) → Shown A → State A → Edit A
take_cell p rule c s = record { refusal = take_refusal p rule s.cells c; cells = s.cells ++ (c ∷ []); number = s.number }

abbrev pub grid_refusals : {A : Type 0} → Room → List (Shown A) → Shown A → List (Bool × Refusal)
grid_refusals room cells c = (passes room (span cells + c.width), Full) ∷ []

abbrev pub grid_rule : {A : Type 0} → Room → List (Shown A) → Shown A → Option Refusal
grid_rule room cells c = first_of (grid_refusals room cells c)

abbrev pub behind : {X : Type 0} → List X → List (List X × X)
behind [] = []
behind (x ∷ xs) = ([], x) ∷ map (λ s. (x ∷ s.0, s.1)) (behind xs)

abbrev pub first_some : List (Option Refusal) → Option Refusal
first_some [] = None
first_some (o ∷ os) = or_else o (first_some os)

abbrev pub compaction : {A : Type 0} → Splits → (List (Shown A) → Shown A → Option Refusal) → List (Shown A) → Option Refusal
compaction p rule cells = first_some (map (λ s. take_refusal p rule s.0 s.1) (behind cells))

abbrev pub fuses_behind : {A : Type 0} → Splits → Option (Shown A) → Shown A → Bool
fuses_behind p None c = false
fuses_behind p (Some last) c = nat_lt (length last.text) (p.first (last.text ++ c.text))

abbrev pub fuses : {A : Type 0} → Splits → List (Shown A) → Shown A → Bool
fuses p cells c = fuses_behind p (last_of cells) c

abbrev pub unlike : {A : Type 0} → Kind A → List (Shown A) → ℕ
unlike k [] = 0
unlike k (c ∷ []) = 0
unlike k (c ∷ (d ∷ cs)) = cond (k.same c.attrs d.attrs) 0 1 + unlike k (d ∷ cs)

abbrev pub runs_needed : {A : Type 0} → Kind A → List (Shown A) → ℕ
runs_needed k [] = 0
runs_needed k (c ∷ cs) = 1 + unlike k (c ∷ cs)

abbrev pub bytes_needed : {A : Type 0} → List (Shown A) → ℕ
bytes_needed [] = 0
bytes_needed (c ∷ cs) = length c.text + bytes_needed cs

abbrev pub lacks : {A : Type 0} → Kind A → ℕ → ℕ → List (Shown A) → Bool
lacks k runs bytes cells = nat_lt runs (runs_needed k cells) || (nat_lt bytes (bytes_needed cells) || nat_lt most_columns (span cells))

abbrev pub run_rule : {A : Type 0} → Kind A → Splits → ℕ → ℕ → List (Shown A) → Shown A → Option Refusal
run_rule k p runs bytes cells c = first_of ((fuses p cells c, Fuses) ∷ (lacks k runs bytes (cells ++ (c ∷ [])), Full) ∷ [])
