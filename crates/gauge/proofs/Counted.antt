-- Counts over the pieces of a text, and what is left of them.
use Rattle.std.proofs.Common.{◌≡◌, ℕ, zero, suc, ◌+◌, ◌-◌, ◌*◌, ◌^◌, ◌<◌, ◌≤◌, List, [], ◌∷◌, length, drop, refl, ap, arith}
use Rattle.cells.specs.Cleaning.{clean}
use Rattle.splitters.specs.Pieces.{Part, parts, placed, pieces, cut}
use Rattle.splitters.specs.Splits.{Splits, columns}
use Rattle.splitters.specs.declared.width.Width.{Width}
use Rattle.splitters.specs.declared.width.Width.TheVariants.{Narrow, Wide}
use Rattle.gauge.specs.Measures.{columns_of, controls_of, any_long}
use Rattle.gauge.specs.declared.measure.Measure.{Measure}

-- counts so far, with those of what is left, are those of all; no piece was long so far
pub record Counts (p : Splits) (t : Measure) (left all : List Part) : Type 0 where
  pub columns_so : t.columns + columns_of p left ≡ columns_of p all
  pub cells_so : t.cells + length left ≡ length all
  pub controls_so : t.controls + controls_of left ≡ controls_of all
  pub few : t.controls ≤ t.cells
  pub short_so : any_long left ≡ any_long all

at_most_two : (w : Width) → columns w ≤ 2
at_most_two Narrow = omega arith
at_most_two Wide = omega arith

-- ---- how large counts can get
columns_bound : (p : Splits) (xs : List Part) → columns_of p xs ≤ 2 * length xs
columns_bound p [] = omega arith
columns_bound p (x ∷ xs) = let h = columns_bound p xs in let w = at_most_two (p.width (clean x.bytes)) in omega arith

placed_length : (at : ℕ) (ps : List (List ℕ)) → length (placed at ps) ≡ length ps
placed_length at [] = refl
placed_length at (p ∷ ps) = ap suc (placed_length (at + length p) ps)

cut_length : (f : List ℕ → ℕ) (n : ℕ) (t : List ℕ) → length (cut f n t) ≤ n
cut_length f zero t = omega arith
cut_length f (suc n) [] = omega arith
cut_length f (suc n) (b ∷ t) = let h = cut_length f n (drop (f (b ∷ t) - 1) t) in omega arith

pub parts_length : (f : List ℕ → ℕ) (at : ℕ) (t : List ℕ) → length (parts f at t) ≤ length t
parts_length f at t = let e = placed_length at (pieces f t) in let h = cut_length f (length t) t in omega arith

-- where a piece is left, the counts have room for it
pub room : (p : Splits) (t : Measure) (left all : List Part) → Counts p t left all → 0 < length left → length all < 2 ^ 64
    → (t.cells + 1 < 2 ^ 64) × (t.controls + 1 < 2 ^ 64) × (t.columns + 2 < 2 ^ 128)
room p t left all c l h =
    let a = columns_bound p all in
    (omega (arith, c.cells_so), omega (arith, c.cells_so, c.few), omega (arith, c.columns_so))
