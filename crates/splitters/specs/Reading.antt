-- A reader of pieces.
-- part_of  what a piece that was read is: its place, its bytes, and whether it is a control
-- step     how far the first piece of a text reaches: its length, at least one byte and at most what there is
-- opened   a reader at the start of a text, or the refusal of a text that is not good
-- Alone    what each piece of a good text is by itself: good text, one piece, and not empty
-- Read     what the pieces of a good text are: joined they are the text, and each is the first piece of what is left
use Rattle.std.specs.Prelude.{◌≡◌, ℕ, ◌<◌, min, max, true, false, not, List, [], ◌∷◌, length, Result}
use Rattle.cells.specs.Refusals.{first_of, verdict}
use Rattle.cells.specs.declared.refusal.Refusal.{Refusal}
use Rattle.cells.specs.declared.refusal.Refusal.TheVariants.{NotGood}
use Rattle.splitters.specs.Splits.{Splits}
use Rattle.splitters.specs.Pieces.{Part, pieces, flat, Firsts}
use Rattle.splitters.specs.declared.piece.Piece.{Piece}
use Rattle.splitters.specs.declared.piece.Piece.TheVariants.{Text, Control}

abbrev pub part_of : Piece → Part
part_of (Text at bytes) = record { at = at; bytes = bytes.now; control = false }
part_of (Control at bytes) = record { at = at; bytes = bytes.now; control = true }

abbrev pub step : (List ℕ → ℕ) → List ℕ → ℕ
step first t = min (length t) (max 1 (first t))

pub record Alone (p : Splits) (t : List ℕ) : Type 0 where
  pub good : p.good t ≡ true
  pub one : p.first t ≡ length t
  pub some : 0 < length t

pub record Read (first : List ℕ → ℕ) (t : List ℕ) : Type 0 where
  pub whole : flat (pieces first t) ≡ t
  pub in_turn : Firsts first (pieces first t)

abbrev pub opened : Splits → List ℕ → Result (List ℕ × ℕ) Refusal
opened p t = verdict (first_of ((not (p.good t), NotGood) ∷ [])) (t, 0)
