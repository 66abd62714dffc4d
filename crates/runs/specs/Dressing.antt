-- Cells from the pieces of a text, bits and runs.
-- width_by   the width that a bit says
-- shows      a cell in front of others where its word can be made, else none
-- dress      the cells of pieces from a column on: each piece cleaned, its width by the bit of its column, its attributes by the first run;
--            they end where the pieces or the runs end, or where a piece is no cell's text
-- texts      the texts of cells
-- text_at    the text of a cell, or the empty text of none
-- last_text  the text of the last cell, or the empty text
-- last_piece the last of pieces, or the empty text
use Rattle.std.specs.Prelude.{ℕ, ◌+◌, Bool, cond, List, [], ◌∷◌, map, Some, None, Ok, Err, Option, Result}
use Rattle.cells.specs.Cells.{Shown}
use Rattle.cells.specs.Cleaning.{clean}
use Rattle.cells.specs.Words.{Text, made}
use Rattle.cells.specs.declared.refusal.Refusal.{Refusal}
use Rattle.rows.specs.Lists.{last_of}
use Rattle.runs.specs.declared.run.Run.{Run}
use Rattle.runs.specs.Runs.{past}

abbrev pub width_by : Bool → ℕ
width_by on = cond on 2 1

abbrev pub shows : {A : Type 0} → Result Text Refusal → A → List (Shown A) → List (Shown A)
shows (Ok t) a cells = record { text = t.text; width = t.width; attrs = a } ∷ cells
shows (Err why) a cells = []

abbrev pub dress : {A : Type 0} → (ℕ → Bool) → List (List ℕ) → ℕ → List (Run A) → List (Shown A)
dress bits [] x rs = []
dress bits (p ∷ ps) x [] = []
dress bits (p ∷ ps) x (r ∷ rs) =
    shows (made (clean p) (width_by (bits x))) r.attrs (dress bits ps (x + width_by (bits x)) (past (r ∷ rs)))

abbrev pub texts : {A : Type 0} → List (Shown A) → List (List ℕ)
texts cells = map (λ c. c.text) cells

abbrev pub text_at : {A : Type 0} → Option (Shown A) → List ℕ
text_at None = []
text_at (Some c) = c.text

abbrev pub last_text : {A : Type 0} → List (Shown A) → List ℕ
last_text cells = text_at (last_of cells)

abbrev pub last_piece : List (List ℕ) → List ℕ
last_piece [] = []
last_piece (p ∷ []) = p
last_piece (p ∷ (q ∷ ps)) = last_piece (q ∷ ps)
