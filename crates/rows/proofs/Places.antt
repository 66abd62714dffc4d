-- A cell's column is how many columns are before it, an empty range holds no cell, and memory takes what it has room for.
use Rattle.std.proofs.Common.{◌≡◌, ℕ, ◌+◌, ◌≤◌, false, List, [], ◌∷◌, ◌++◌, map, filter, sym, refl, ap, ◌∙◌, add_assoc, zero-add, arith}
use Rattle.std.proofs.lemmas.List.{map-append}
use Rattle.std.proofs.lemmas.Bool.Decides.{nat_tests}
use Rattle.cells.specs.Cells.{Shown}
use Rattle.rows.specs.Lists.{span, joined}
use Rattle.rows.specs.Questions.{within}
use Rattle.rows.specs.QuestionLaws.{Places}
use Rattle.rows.specs.Spread.{Placed, further, placed}

module _ {A : Type 0} where
  not_moved : (ps : List (Placed A)) → map (further 0) ps ≡ ps
  not_moved [] = refl
  not_moved (p ∷ ps) = let e : further 0 p ≡ p = (λ i. record { column = zero-add p.column i; cell = p.cell }) in let f = not_moved ps in cc

  moved_twice : (m n : ℕ) (ps : List (Placed A)) → map (further m) (map (further n) ps) ≡ map (further (m + n)) ps
  moved_twice m n [] = refl
  moved_twice m n (p ∷ ps) =
      let e : further m (further n p) ≡ further (m + n) p = (λ i. record { column = sym (add_assoc m n p.column) i; cell = p.cell }) in
      let f = moved_twice m n ps in
      cc

  placed_append : (before behind : List (Shown A)) → placed (before ++ behind) ≡ placed before ++ map (further (span before)) (placed behind)
  placed_append [] behind = sym (not_moved (placed behind))
  placed_append (c ∷ before) behind =
      ap (λ ps. record { column = 0; cell = c } ∷ ps)
      (ap (map (further c.width)) (placed_append before behind)
      ∙ map-append (further c.width) (placed before) (map (further (span before)) (placed behind))
      ∙ ap (λ ps. map (further c.width) (placed before) ++ ps) (moved_twice c.width (span before) (placed behind)))

  outside : (start end : ℕ) (p : Placed A) → end ≤ start → within start end p ≡ false
  outside start end p h = grind (arith, nat_tests)

  none_within : (start end : ℕ) (ps : List (Placed A)) → end ≤ start → filter (within start end) ps ≡ []
  none_within start end [] h = refl
  none_within start end (p ∷ ps) h = rw (outside start end p h) (none_within start end ps h)

pub places : {A : Type 0} → Places A
places = record {
  columns = placed_append;
  empty = λ start end cs h. ap (λ ps. joined (map (λ p. p.cell.text) ps)) (none_within start end (placed cs) h);
}
