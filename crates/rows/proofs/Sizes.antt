-- Widths.
use Rattle.std.proofs.Common.{◌≡◌, false, not, ◌&&◌, ◌||◌, eqb, ◌⊎◌, List, [], ◌∷◌, map, inl, inr, ⊎_elim}
use Rattle.std.proofs.lemmas.Bool.{not-false, not-true, or_cases, and_parts, eqb-true}
use Rattle.std.specs.List.{AllByRecursion}
use Rattle.cells.specs.Cells.{Shown, meaning}
use Rattle.cells.specs.declared.cell.Cell.{Cell}
use Rattle.cells.specs.Words.{is_space}
use Rattle.rows.specs.Bounds.{Sized}

-- a width is 1, or 2 and the text is no space
abbrev pub Two : {A : Type 0} → Shown A → Type 0
Two c = (c.width ≡ 1) ⊎ ((c.width ≡ 2) × (is_space c.text ≡ false))

pub two : {A : Type 0} (c : Shown A) → Sized c → Two c
two c e =
    ⊎_elim (λ a. inl (eqb-true c.width 1 a))
    (λ b. let h = and_parts (eqb c.width 2) (not (is_space c.text)) b in inr (eqb-true c.width 2 h.0, not-true (is_space c.text) h.1))
    (or_cases (eqb c.width 1) (eqb c.width 2 && not (is_space c.text)) (not-false (eqb c.width 1 || (eqb c.width 2 && not (is_space c.text))) e))

pub sized : {A : Type 0} (c : Shown A) → Two c → Sized c
sized c (inl e) = rw e
sized c (inr e) = rw (e.0, e.1)

-- what code holds
pub sized_cells : {A : Type 0} (cs : List (Cell A)) → AllByRecursion Sized (map meaning cs)
sized_cells [] = tt
sized_cells (c ∷ cs) = (c.text.narrow, sized_cells cs)
