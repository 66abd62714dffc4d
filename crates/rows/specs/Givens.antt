-- What is given to a row: cells and texts.
-- cell_refusals  what refuses a given cell: its text is not good, or is not one piece of the splitter
-- cell_of        the cleaned cell of a piece
-- cells_of       the cells of a text, one for each piece
-- any_long       whether a piece has more than 7 bytes
use Rattle.std.specs.Prelude.{ℕ, Bool, false, not, ◌||◌, List, [], ◌∷◌, map, length, None, nat_lt}
use Rattle.cells.specs.Cells.{Shown}
use Rattle.cells.specs.Cleaning.{clean}
use Rattle.cells.specs.declared.refusal.Refusal.{Refusal}
use Rattle.cells.specs.declared.refusal.Refusal.TheVariants.{NotGood, NotOnePiece}
use Rattle.splitters.specs.Splits.{Splits}
use Rattle.splitters.specs.Pieces.{pieces}
use Rattle.splitters.specs.Graphemes.{cell_width, one_piece}

abbrev pub cell_refusals : {A : Type 0} → Splits → Shown A → List (Bool × Refusal)
cell_refusals p c = (not (p.good c.text), NotGood) ∷ (not (one_piece p c.text), NotOnePiece) ∷ []

abbrev pub cell_of : {A : Type 0} → Splits → A → List ℕ → Shown A
cell_of p a t = record { text = clean t; width = cell_width p (clean t) None; attrs = a }

abbrev pub cells_of : {A : Type 0} → Splits → A → List ℕ → List (Shown A)
cells_of p a t = map (cell_of p a) (pieces p.first t)

abbrev pub any_long : List (List ℕ) → Bool
any_long [] = false
any_long (t ∷ ts) = nat_lt 7 (length t) || any_long ts
