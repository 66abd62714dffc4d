-- The worked samples, as one list. W is U+4E2D, two columns wide; attributes are blank; for every kind, and every splitter that reads these texts so.
-- Reads    what the samples ask of a splitter: x and e are pieces, so is the mark U+0301 alone, and e with the mark behind it is one piece
-- gives    an accepted edit that leaves these cells, and the number 9
-- keeps    an accepted edit that leaves these cells, and the number 3
-- Samples  the samples, those of wrapping and of the questions too
use Rattle.std.specs.Prelude.{◌≡◌, ℕ, true, List, [], ◌∷◌, ◌++◌, Some, None, codes}
use Rattle.std.specs.List.{slice_get}
use Rattle.cells.specs.Cells.{Shown}
use Rattle.cells.specs.Kinds.{Kind}
use Rattle.cells.specs.declared.refusal.Refusal.TheVariants.{PartsWide, Fuses}
use Rattle.splitters.specs.Splits.{Splits}
use Rattle.rows.specs.Lists.{span}
use Rattle.rows.specs.Spread.{placed}
use Rattle.rows.specs.Rows.{Edit}
use Rattle.rows.specs.Edits.{set_cell, insert_cell, erase_cell, prune_trailing_blanks, resize}
use Rattle.rows.specs.Packing.{compaction, run_rule}
use Rattle.rows.specs.WrapSamples.{room, state, cell, wide_w, row, a_wide_b, WrapSamples}

abbrev pub mark : List ℕ
mark = 0xcc ∷ 0x81 ∷ []

pub record Reads (p : Splits) : Type 0 where
  pub good_x : p.good (codes "x") ≡ true
  pub one_x : p.first (codes "x") ≡ 1
  pub good_e : p.good (codes "e") ≡ true
  pub one_e : p.first (codes "e") ≡ 1
  pub good_mark : p.good mark ≡ true
  pub one_mark : p.first mark ≡ 2
  pub one_both : p.first (codes "e" ++ mark) ≡ 3

abbrev pub gives : {A : Type 0} → List (Shown A) → Edit A
gives cells = record { refusal = None; cells = cells; number = 9 }

abbrev pub keeps : {A : Type 0} → List (Shown A) → Edit A
keeps cells = record { refusal = None; cells = cells; number = 3 }

pub record Samples {A : Type 0} (k : Kind A) (p : Splits) : Type 0 where
  pub length : span (a_wide_b k) ≡ 4
  pub wide_at_1 : slice_get (placed (a_wide_b k)) 1 ≡ Some (record { column = 1; cell = wide_w k })
  pub set_at_2 : set_cell k p (room 80) 2 (cell k 0x78) 9 (state 3 (a_wide_b k)) ≡ gives (row k "a xb")
  pub set_at_1 : set_cell k p (room 80) 1 (cell k 0x78) 9 (state 3 (a_wide_b k)) ≡ gives (row k "ax b")
  pub erase_at_1 : erase_cell k 1 9 (state 3 (a_wide_b k)) ≡ gives (row k "a b ")
  pub insert_at_2 : (insert_cell k p (room 80) 2 (cell k 0x78) 9 9 (state 3 (a_wide_b k))).refusal ≡ Some PartsWide
  pub resize_to_2 : (resize k (room 80) 2 9 (state 3 (a_wide_b k))).refusal ≡ Some PartsWide
  pub resize_to_3 : resize k (room 80) 3 9 (state 3 (a_wide_b k)) ≡ gives (row k "a" ++ (wide_w k ∷ []))
  pub prune_blanks : prune_trailing_blanks k 9 (state 3 (row k "   ")) ≡ gives []
  pub prune_a_wide : prune_trailing_blanks k 9 (state 3 (row k "a" ++ (wide_w k ∷ []))) ≡ keeps (row k "a" ++ (wide_w k ∷ []))
  pub length_a_wide : span (row k "a" ++ (wide_w k ∷ [])) ≡ 3
  pub fused : compaction p (run_rule k p 80 560) (cell k 0x65 ∷ record { text = mark; width = 1; attrs = k.blank } ∷ []) ≡ Some Fuses
  pub wraps : WrapSamples k

abbrev pub SamplesHold : Type 0 → Type 0
SamplesHold K = (k : Kind K) (p : Splits) → Reads p → Samples k p
