-- A cell from a text.
-- cell_width         its width: as given, or the splitter's
-- bad_given          whether a given width is none that the text may have
-- one_piece          whether a text is one piece: its first piece is as long as it is
-- grapheme_refusals  what refuses a text as a cell: not good as given; after cleaning not one piece, longer than seven bytes, of a bad width
-- grapheme           the shown cell of a text, or the refusal
use Rattle.std.specs.Prelude.{ℕ, Bool, false, not, List, [], ◌∷◌, length, Some, None, Option, Result, ◌==◌, nat_lt}
use Rattle.cells.specs.Cells.{Shown}
use Rattle.cells.specs.Cleaning.{clean}
use Rattle.cells.specs.Refusals.{first_of, verdict}
use Rattle.cells.specs.Words.{bad_width}
use Rattle.cells.specs.declared.refusal.Refusal.{Refusal}
use Rattle.cells.specs.declared.refusal.Refusal.TheVariants.{NotGood, NotOnePiece, TooLong, BadWidth}
use Rattle.splitters.specs.Splits.{Splits, columns}

abbrev pub cell_width : Splits → List ℕ → Option ℕ → ℕ
cell_width p t None = columns (p.width t)
cell_width p t (Some width) = width

abbrev pub bad_given : List ℕ → Option ℕ → Bool
bad_given t None = false
bad_given t (Some width) = bad_width t width

abbrev pub one_piece : Splits → List ℕ → Bool
one_piece p t = p.first t == length t

abbrev pub grapheme_refusals : Splits → List ℕ → Option ℕ → List (Bool × Refusal)
grapheme_refusals p t given =
    (not (p.good t), NotGood) ∷ (not (one_piece p (clean t)), NotOnePiece) ∷ (nat_lt 7 (length (clean t)), TooLong)
    ∷ (bad_given (clean t) given, BadWidth) ∷ []

abbrev pub grapheme : {A : Type 0} → Splits → List ℕ → Option ℕ → A → Result (Shown A) Refusal
grapheme p t given attrs =
    verdict (first_of (grapheme_refusals p t given)) (record { text = clean t; width = cell_width p (clean t) given; attrs = attrs })
