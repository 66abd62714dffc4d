-- What a run store means, and when its memory is sound.
-- cells     the cells that it shows
-- held_of   the cells and the sizes of its memory: runs, then text bytes
-- rule_of   what refuses one more cell, by these sizes
-- refused   what refuses one more cell of a run store: it is no piece of the splitter, or the rule says so
-- Holds     a text, where its last piece begins, a count, wide bits and runs hold cells
-- Sound     the memory of a run store holds the cells that it shows
-- Packed    what a sound memory is like: the text is the cells' texts joined, neighbouring runs have unlike attributes, the runs' attributes
--           are the cells' in turn, a bit is set for each column in which a wide cell starts, and the set bits count the columns beyond one for each cell
-- left_at   what a reader at a place has still to give
use Rattle.std.specs.Prelude.{◌≡◌, ℕ, ◌+◌, true, List, [], ◌∷◌, map, length, drop, vec_items, Option, slice_index}
use Rattle.cells.specs.Cells.{Shown}
use Rattle.cells.specs.Kinds.{Kind}
use Rattle.cells.specs.declared.refusal.Refusal.{Refusal}
use Rattle.splitters.specs.Splits.{Splits}
use Rattle.splitters.specs.Pieces.{pieces, flat}
use Rattle.rows.specs.Columns.{wide_at}
use Rattle.rows.specs.Lists.{span}
use Rattle.rows.specs.Packing.{run_rule, take_refusal}
use Rattle.rows.specs.Spread.{spread}
use Rattle.stores.specs.Stores.{Held}
use Rattle.runs.specs.declared.memory.Memory.{Memory}
use Rattle.runs.specs.declared.place.Place.{Place}
use Rattle.runs.specs.declared.run.Run.{Run}
use Rattle.runs.specs.Bits.{bits_of, ones_in}
use Rattle.runs.specs.Dressing.{dress, texts, last_text}
use Rattle.runs.specs.Runs.{Apart, begun, same_runs, spread_out, stretches}

abbrev pub cells : {A : Type 0} → Splits → Memory A → List (Shown A)
cells p s = dress (bits_of s.wide) (pieces p.first (vec_items s.text)) 0 (vec_items s.runs)

abbrev pub held_of : {A : Type 0} → Splits → Memory A → Held A
held_of p s = record { cells = cells p s; sizes = s.most ∷ (s.bytes ∷ []) }

abbrev pub rule_of : {A : Type 0} → Kind A → Splits → List ℕ → List (Shown A) → Shown A → Option Refusal
rule_of k p sizes = run_rule k p (slice_index sizes 0) (slice_index sizes 1)

abbrev pub refused : {A : Type 0} → Kind A → Splits → Memory A → Shown A → Option Refusal
refused k p s c = take_refusal p (rule_of k p (held_of p s).sizes) (cells p s) c

-- the text is good and its pieces are the cells' texts; the runs are the stretches of their attributes, by any kind, since all kinds agree;
-- the last text begins where it is said to; the bits are those of the columns in which wide cells start; and the counts are right
pub record Holds {A : Type 0} (p : Splits) (text : List ℕ) (last count : ℕ) (words : List ℕ) (rs : List (Run A)) (cs : List (Shown A)) : Type 0 where
  pub good : p.good text ≡ true
  pub split : pieces p.first text ≡ texts cs
  pub even : (k : Kind A) → same_runs k rs (stretches k cs) ≡ true
  pub ended : drop last text ≡ last_text cs
  pub counted : count ≡ length cs
  pub marked : (k : ℕ) → bits_of words k ≡ wide_at k (spread cs)
  pub spanned : count + ones_in words ≡ span cs

abbrev pub Sound : {A : Type 0} → Splits → Memory A → Type 0
Sound p s = Holds p (vec_items s.text) s.last s.count s.wide (vec_items s.runs) (cells p s)

pub record Packed {A : Type 0} (k : Kind A) (p : Splits) (s : Memory A) : Type 0 where
  pub joined : vec_items s.text ≡ flat (texts (cells p s))
  pub apart : Apart k (vec_items s.runs)
  pub attributes : spread_out (vec_items s.runs) ≡ map (λ c. c.attrs) (cells p s)
  pub wide_bits : (x : ℕ) → bits_of s.wide x ≡ wide_at x (spread (cells p s))
  pub columns : length (cells p s) + ones_in s.wide ≡ span (cells p s)

abbrev pub left_at : {A : Type 0} → Splits → Memory A → Place → List (Shown A)
left_at p s at =
    dress (bits_of s.wide) (pieces p.first (drop at.byte (vec_items s.text))) at.column (begun at.left (drop at.run (vec_items s.runs)))
