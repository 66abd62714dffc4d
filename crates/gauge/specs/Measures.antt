-- How long a line of text is as cells.
-- columns_of  the columns of pieces, each cleaned
-- controls_of how many of them are controls
-- any_long    whether one of them is longer than a cell's text may be
-- tallied     counts with one piece more, or 3 where it is over seven bytes
-- measured    columns, cells and controls of a line; or 1 where it is not good, 3 where a piece is over seven bytes
use Rattle.std.specs.Prelude.{ℕ, ◌+◌, Bool, false, cond, not, ◌||◌, List, [], ◌∷◌, length, Result, nat_lt}
use Rattle.cells.specs.Cleaning.{clean}
use Rattle.cells.specs.Refusals.{first_of, verdict}
use Rattle.cells.specs.declared.refusal.Refusal.{Refusal}
use Rattle.cells.specs.declared.refusal.Refusal.TheVariants.{NotGood, TooLong}
use Rattle.splitters.specs.Pieces.{Part, parts}
use Rattle.splitters.specs.Splits.{Splits, columns}
use Rattle.gauge.specs.declared.measure.Measure.{Measure}

abbrev pub columns_of : Splits → List Part → ℕ
columns_of p [] = 0
columns_of p (x ∷ xs) = columns (p.width (clean x.bytes)) + columns_of p xs

abbrev pub controls_of : List Part → ℕ
controls_of [] = 0
controls_of (x ∷ xs) = cond x.control 1 0 + controls_of xs

abbrev pub any_long : List Part → Bool
any_long [] = false
any_long (x ∷ xs) = nat_lt 7 (length (clean x.bytes)) || any_long xs

abbrev pub measured : Splits → List ℕ → Result Measure Refusal
measured p t =
    let all : List Part = parts p.first 0 t in
    verdict (first_of ((not (p.good t), NotGood) ∷ (any_long all, TooLong) ∷ []))
    (record { columns = columns_of p all; cells = length all; controls = controls_of all })

abbrev pub tallied : Splits → Measure → Part → Result Measure Refusal
tallied p m x =
    verdict (first_of ((nat_lt 7 (length (clean x.bytes)), TooLong) ∷ []))
    (record {
      columns = m.columns + columns (p.width (clean x.bytes));
      cells = m.cells + 1;
      controls = m.controls + cond x.control 1 0;
    })
