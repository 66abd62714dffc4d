-- Whole columns as a ghost field holds them: `∥ Whole cols ∥₁` has one proof at most, and gives `Whole cols` back where attributes are a set.
use Rattle.std.proofs.Common.{List, ap}
use mathlib.Core.List.{is_set}
use mathlib.Core.Logic.{∥∥₁_elim}
use native.Mathlib.Nat.{ℕ_set}
use Rattle.cells.specs.Cells.{Shown}
use Rattle.rows.specs.Spread.{spread}
use Rattle.rows.specs.Columns.{shown, Whole}

pub shown_set : {A : Type 0} → IsSet A → IsSet (Shown A)
shown_set s c d p q i j = record {
  text = is_set ℕ_set c.text d.text (ap (λ v. v.text) p) (ap (λ v. v.text) q) i j;
  width = ℕ_set c.width d.width (ap (λ v. v.width) p) (ap (λ v. v.width) q) i j;
  attrs = s c.attrs d.attrs (ap (λ v. v.attrs) p) (ap (λ v. v.attrs) q) i j;
}

pub whole_held : {A : Type 0} → IsSet A → (cols : List (Shown A)) → ∥ Whole cols ∥₁ → Whole cols
whole_held s cols t = ∥∥₁_elim t (is_set (shown_set s) (spread (shown cols)) cols) (λ w. w)
