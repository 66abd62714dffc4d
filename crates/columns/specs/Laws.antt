-- What the implementations cite where they keep the laws of a store and of a grid: of cells in a list, and of columns in memory.
-- coded_shown    shown cells can be told apart where attributes can
-- whole_cells    what the ghost field says of whole columns; whole_of is the same of columns in memory
-- sized_columns  each shown cell takes one column or two; sized_shown
-- span_cols      the shown cells take as many columns as are held; span_held
-- span_bounded   and no more than any bound on these; span_within: and no more than the limit
use Rattle.std.specs.Prelude.{◌≡◌, ℕ, ◌≤◌, List, length, Vec, vec_len, refl}
use Rattle.std.specs.List.{AllByRecursion}
use Rattle.std.proofs.Common.{◌∙◌, arith}
use Rattle.std.proofs.Math.Logic.{∥∥₁_elim}
use Rattle.std.proofs.lemmas.List.{length-map}
use base.Stored.{Coded, Coded-set, coded_via, coded×, coded_list, coded_ℕ}
use Rattle.cells.specs.Cells.{Shown, meaning}
use Rattle.cells.specs.declared.cell.Cell.{Cell}
use Rattle.rows.specs.Bounds.{Sized}
use Rattle.rows.specs.Columns.{Whole, shown}
use Rattle.rows.specs.Lists.{span}
use Rattle.rows.proofs.Kept.{all_shown}
use Rattle.rows.proofs.Sizes.{sized_cells}
use Rattle.rows.proofs.Spans.{span_shown}
use Rattle.columns.specs.Cols.{columns}
use Rattle.columns.specs.Becoming.{held}
use Rattle.columns.specs.declared.cols.Columns.{Columns}

module _ {A : Type 0} where
  pub coded_shown : Coded A → Coded (Shown A)
  coded_shown a =
      coded_via (coded× (coded_list coded_ℕ) (coded× coded_ℕ a)) (λ (c : Shown A). (c.text, (c.width, c.attrs)))
      (λ x y p i. record { text = (p i).0; width = (p i).1.0; attrs = (p i).1.1 })

  pub whole_cells : Coded A → (xs : List (Cell A)) → ∥ Whole (columns xs) ∥₁ → Whole (columns xs)
  whole_cells a xs w = ∥∥₁_elim w (Coded-set (coded_list (coded_shown a)) _ _) (λ e. e)

  pub whole_of : Coded A → (s : Columns A) → ∥ Whole (held s) ∥₁ → Whole (held s)
  whole_of a s = whole_cells a s.cells.items

  pub sized_columns : (xs : List (Cell A)) → AllByRecursion Sized (shown (columns xs))
  sized_columns xs = all_shown Sized (λ a. refl) (columns xs) (sized_cells xs)

  pub sized_shown : (s : Columns A) → AllByRecursion Sized (shown (held s))
  sized_shown s = sized_columns s.cells.items

  pub span_cols : (xs : List (Cell A)) → Whole (columns xs) → span (shown (columns xs)) ≡ length xs
  span_cols xs w = span_shown (columns xs) w (sized_columns xs) ∙ length-map xs meaning

  pub span_held : (s : Columns A) → Whole (held s) → span (shown (held s)) ≡ length (held s)
  span_held s w = span_shown (held s) w (sized_shown s)

  pub span_bounded : {Z : Type 0} → Coded A → (v : Vec (Cell A) Z) (bound : ℕ) → ∥ Whole (columns v.items) ∥₁ → vec_len v ≤ bound → span (shown (columns v.items)) ≤ bound
  span_bounded a v bound whole within =
      let l = span_cols v.items (whole_cells a v.items whole) in
      let n = v.ok.0 in
      omega arith

  pub span_within : Coded A → (s : Columns A) → ∥ Whole (held s) ∥₁ → span (shown (held s)) ≤ s.limit
  span_within a s whole = let l = span_held s (whole_of a s whole) in let n = s.within in omega arith
