-- Wrapping.
-- trimmed      cells up to the last that is no space
-- Cut          how many cells the next row takes, from the width and the cells that are left
-- Proper       a cut takes at least one cell and, beyond one, only what fits
-- cut_up       cells cut into rows: the next row, and then what is left cut likewise; fuel bounds how many
-- rows_of      all the rows that a cut makes of cells
-- fitting      how many cells from the front fit the width together
-- greedy       the cut of `wrap`: as many cells as fit, and at least one
-- flag_ends    rows, each but the final one with the flag set on its last cell
-- wrapped      the wrapped rows: the trimmed cells cut into rows, with their flags; spaces alone, or no cell, are one row as they stand
-- wrap_count   how many they are
-- wrap_refusals  what refuses the call, in the order of the numbers
-- wrap         what the call does to the second row, whose room is given: 8 where there is no such row, 9 where its room is too small;
--              else the row, with the number given, or with the row's own where it comes back alone
-- wrap_answer  what the call answers: how many wrapped rows there are, or the refusal
use Rattle.std.specs.Prelude.{ℕ, zero, suc, ◌-◌, ◌<◌, max, Bool, true, cond, List, [], ◌∷◌, length, take, drop, Result, nat_le, slice_index_or}
use Rattle.cells.specs.Cells.{Shown}
use Rattle.cells.specs.Kinds.{Kind}
use Rattle.cells.specs.Refusals.{first_of, verdict}
use Rattle.cells.specs.declared.refusal.Refusal.{Refusal}
use Rattle.cells.specs.declared.refusal.Refusal.TheVariants.{NoSuchRow, TooSmall}
use Rattle.rows.specs.Cuttings.{Fits}
use Rattle.rows.specs.Lasts.{flag_cell, on_last}
use Rattle.rows.specs.Lists.{span}
use Rattle.rows.specs.Rows.{State, Room, Edit, passes}
use Rattle.rows.specs.Trims.{any, up_to_last, no_space}

abbrev pub trimmed : {A : Type 0} → List (Shown A) → List (Shown A)
trimmed cs = up_to_last no_space cs

abbrev pub Cut : Type 0 → Type 0
Cut A = ℕ → List (Shown A) → ℕ

pub record Proper {A : Type 0} (cut : Cut A) : Type 0 where
  pub some : (width : ℕ) (c : Shown A) (cs : List (Shown A)) → 0 < cut width (c ∷ cs)
  pub fits : (width : ℕ) (c : Shown A) (cs : List (Shown A)) → 1 < cut width (c ∷ cs) → Fits width (take (cut width (c ∷ cs)) (c ∷ cs))

abbrev pub cut_up : {A : Type 0} → Cut A → ℕ → ℕ → List (Shown A) → List (List (Shown A))
cut_up cut width zero cs = []
cut_up cut width (suc fuel) [] = []
cut_up cut width (suc fuel) (c ∷ cs) =
    take (cut width (c ∷ cs)) (c ∷ cs) ∷ cut_up cut width fuel (drop (cut width (c ∷ cs)) (c ∷ cs))

abbrev pub rows_of : {A : Type 0} → Cut A → ℕ → List (Shown A) → List (List (Shown A))
rows_of cut width cs = cut_up cut width (length cs) cs

abbrev pub fitting : {A : Type 0} → ℕ → List (Shown A) → ℕ
fitting width [] = 0
fitting width (c ∷ cs) = cond (nat_le c.width width) (suc (fitting (width - c.width) cs)) 0

abbrev pub greedy : {A : Type 0} → Cut A
greedy width cs = max 1 (fitting width cs)

abbrev pub flag_ends : {A : Type 0} → Kind A → List (List (Shown A)) → List (List (Shown A))
flag_ends k [] = []
flag_ends k (row ∷ []) = row ∷ []
flag_ends k (row ∷ (next ∷ rows)) = on_last (flag_cell k true) row ∷ flag_ends k (next ∷ rows)

abbrev pub wrapped : {A : Type 0} → Cut A → Kind A → ℕ → List (Shown A) → List (List (Shown A))
wrapped cut k width cs = cond (any no_space cs) (flag_ends k (rows_of cut width (trimmed cs))) (cs ∷ [])

abbrev pub wrap_count : {A : Type 0} → Cut A → Kind A → ℕ → List (Shown A) → ℕ
wrap_count cut k width cs = length (wrapped cut k width cs)

abbrev pub wrap_refusals : {A : Type 0} → Room → ℕ → List (List (Shown A)) → List (Bool × Refusal)
wrap_refusals second at rows = (nat_le (length rows) at, NoSuchRow) ∷ (passes second (span (slice_index_or rows at [])), TooSmall) ∷ []

abbrev pub wrap : {A : Type 0} → Cut A → Kind A → Room → ℕ → ℕ → ℕ → State A → Edit A
wrap cut k second at width seqno s = record {
  refusal = first_of (wrap_refusals second at (wrapped cut k width s.cells));
  cells = slice_index_or (wrapped cut k width s.cells) at [];
  number = cond (any no_space s.cells) seqno s.number;
}

abbrev pub wrap_answer : {A : Type 0} → Cut A → Kind A → Room → ℕ → ℕ → ℕ → State A → Result ℕ Refusal
wrap_answer cut k second at width seqno s = verdict (wrap cut k second at width seqno s).refusal (wrap_count cut k width s.cells)
