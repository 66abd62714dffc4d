-- Stretches are a cutting, each of one type, neighbours of unlike types; and no other cutting is.
use Rattle.std.proofs.Common.{◌≡◌, ◌<◌, Bool, true, false, List, [], ◌∷◌, ◌++◌, length, sym, refl, ap, ◌∙◌, subst, ⊎_elim, arith}
use Rattle.std.specs.List.{AllByRecursion}
use Rattle.std.proofs.ByRecursion.{All-weaker}
use Rattle.std.proofs.lemmas.Bool.{false≢true, cases_Bool}
use Rattle.cells.specs.Cells.{Shown}
use Rattle.cells.specs.Kinds.{Kind, same_type}
use Rattle.cells.proofs.Identical.{type_itself}
use Rattle.cells.proofs.Identical.{one_type as one-from-test}
use Rattle.rows.specs.Cuttings.{Cutting, Neighbours}
use Rattle.rows.specs.Lists.{joined}
use Rattle.rows.specs.Zones.{lead, stretches, cell_type, one_type, type_of}
use Rattle.rows.specs.ZoneLaws.{ByType}

pub record Opened {X : Type 0} (x : X) (rows : List (List X)) : Type 0 where
  pub first : List X
  pub rest : List (List X)
  pub is : rows ≡ (x ∷ first) ∷ rest

module _ {X : Type 0} (like : X → X → Bool) where
  goes_on : (x y : X) (ys : List X) → like x y ≡ true → stretches like (x ∷ (y ∷ ys)) ≡ lead x (stretches like (y ∷ ys))
  goes_on x y ys e = rw e

  ends : (x y : X) (ys : List X) → like x y ≡ false → stretches like (x ∷ (y ∷ ys)) ≡ (x ∷ []) ∷ stretches like (y ∷ ys)
  ends x y ys e = rw e

  lead_joins : (x : X) (rows : List (List X)) → joined (lead x rows) ≡ x ∷ joined rows
  lead_joins x [] = refl
  lead_joins x (r ∷ rows) = refl

  lead_filled : (x : X) (rows : List (List X)) → AllByRecursion (λ r. 0 < length r) rows → AllByRecursion (λ r. 0 < length r) (lead x rows)
  lead_filled x [] h = (omega arith, tt)
  lead_filled x (r ∷ rows) h = (omega arith, h.1)

  pub stretches_cutting : (xs : List X) → Cutting xs (stretches like xs)
  stretches_cutting [] = record { joins = refl; filled = tt }
  stretches_cutting (x ∷ []) = record { joins = refl; filled = (omega arith, tt) }
  stretches_cutting (x ∷ (y ∷ ys)) =
      let i = stretches_cutting (y ∷ ys) in
      ⊎_elim
      (λ e. rw (goes_on x y ys e) (record {
        joins = lead_joins x (stretches like (y ∷ ys)) ∙ ap (λ zs. x ∷ zs) i.joins;
        filled = lead_filled x (stretches like (y ∷ ys)) i.filled;
      }))
      (λ e. rw (ends x y ys e) (record { joins = ap (λ zs. x ∷ zs) i.joins; filled = (omega arith, i.filled) }))
      (cases_Bool (like x y))

  -- the first stretch begins with the first
  pub opens : (x : X) (xs : List X) → Opened x (stretches like (x ∷ xs))
  opens x [] = record { first = []; rest = []; is = refl }
  opens x (y ∷ ys) =
      ⊎_elim
      (λ e. let o = opens y ys in rw (goes_on x y ys e) (record { first = y ∷ o.first; rest = o.rest; is = ap (lead x) o.is }))
      (λ e. rw (ends x y ys e) (record { first = []; rest = stretches like (y ∷ ys); is = refl }))
      (cases_Bool (like x y))

module _ {A : Type 0} (k : Kind A) where
  abbrev Unlike : List (Shown A) → List (Shown A) → Type 0
  Unlike row next = type_of k row ≡ type_of k next → ⊥

  neighbours_first : (row other : List (Shown A)) (rows : List (List (Shown A))) → ((next : List (Shown A)) → Unlike row next → Unlike other next)
      → Neighbours Unlike (row ∷ rows) → Neighbours Unlike (other ∷ rows)
  neighbours_first row other [] f h = tt
  neighbours_first row other (next ∷ rows) f h = (f next h.0, h.1)

  neighbours_rest : (row : List (Shown A)) (rows : List (List (Shown A))) → Neighbours Unlike (row ∷ rows) → Neighbours Unlike rows
  neighbours_rest row [] h = tt
  neighbours_rest row (next ∷ rows) h = h.1

  alike : (c d : Shown A) → one_type k c d ≡ true → cell_type k c ≡ cell_type k d
  alike c d e = one-from-test (cell_type k c) (cell_type k d) e

  not_alike : (c d : Shown A) → one_type k c d ≡ false → cell_type k c ≡ cell_type k d → ⊥
  not_alike c d e same = false≢true (sym e ∙ ap (λ t. same_type t (cell_type k d)) same ∙ type_itself (cell_type k d))

  one_from_alike : (c d : Shown A) → cell_type k c ≡ cell_type k d → one_type k c d ≡ true
  one_from_alike c d same = ap (λ t. same_type t (cell_type k d)) same ∙ type_itself (cell_type k d)

  one_from_unlike : (c d : Shown A) → (cell_type k c ≡ cell_type k d → ⊥) → one_type k c d ≡ false
  one_from_unlike c d apart = ⊎_elim (λ e. absurd (apart (alike c d e))) (λ e. e) (cases_Bool (one_type k c d))

  -- a cell of the type of the first stretch put in front of it
  led : (c d : Shown A) (row : List (Shown A)) (rows : List (List (Shown A))) → cell_type k c ≡ cell_type k d → ByType k ((d ∷ row) ∷ rows) → ByType k ((c ∷ (d ∷ row)) ∷ rows)
  led c d row rows same h = record {
    one = ((refl, (sym same, All-weaker (λ x. cell_type k x ≡ cell_type k d) _ (λ x e. e ∙ sym same) row h.one.0.1)), h.one.1);
    unlike = neighbours_first (d ∷ row) (c ∷ (d ∷ row)) rows (λ next apart e. apart (sym same ∙ e)) h.unlike;
  }

  -- a cell of another type put before it as a stretch of its own
  apart : (c d : Shown A) (row : List (Shown A)) (rows : List (List (Shown A))) → (cell_type k c ≡ cell_type k d → ⊥) → ByType k ((d ∷ row) ∷ rows) → ByType k ((c ∷ []) ∷ ((d ∷ row) ∷ rows))
  apart c d row rows unlike h = record { one = ((refl, tt), h.one); unlike = (unlike, h.unlike) }

  by_types : (c : Shown A) (cs : List (Shown A)) → ByType k (stretches (one_type k) (c ∷ cs))
  by_types c [] = record { one = ((refl, tt), tt); unlike = tt }
  by_types c (d ∷ cs) =
      let o = opens (one_type k) d cs in
      let i = subst (ByType k) o.is (by_types d cs) in
      ⊎_elim
      (λ e. subst (ByType k) (sym (goes_on (one_type k) c d cs e ∙ ap (lead c) o.is)) (led c d o.first o.rest (alike c d e) i))
      (λ e. subst (ByType k) (sym (ends (one_type k) c d cs e ∙ ap (λ rows. (c ∷ []) ∷ rows) o.is)) (apart c d o.first o.rest (not_alike c d e) i))
      (cases_Bool (one_type k c d))

  pub stretches_by_type : (cs : List (Shown A)) → ByType k (stretches (one_type k) cs)
  stretches_by_type [] = record { one = tt; unlike = tt }
  stretches_by_type (c ∷ cs) = by_types c cs

  -- a row of one type before stretches of which the first is of another is the next stretch
  row_settles : (c : Shown A) (row : List (Shown A)) (rows : List (List (Shown A))) → AllByRecursion (λ r. 0 < length r) rows → ByType k ((c ∷ row) ∷ rows)
      → rows ≡ stretches (one_type k) (joined rows) → (c ∷ row) ∷ rows ≡ stretches (one_type k) (c ∷ (row ++ joined rows))
  row_settles c [] [] filled h e = refl
  row_settles c [] ([] ∷ rows) filled h e = absurd (omega (arith, filled.0))
  row_settles c [] ((d ∷ next) ∷ rows) filled h e =
      ap (λ rs. (c ∷ []) ∷ rs) e ∙ sym (ends (one_type k) c d (next ++ joined rows) (one_from_unlike c d h.unlike.0))
  row_settles c (d ∷ row) rows filled h e =
      let same : cell_type k d ≡ cell_type k c = h.one.0.1.0 in
      let g : ByType k ((d ∷ row) ∷ rows) = record {
        one = ((refl, All-weaker (λ x. cell_type k x ≡ cell_type k c) _ (λ x p. p ∙ sym same) row h.one.0.1.1), h.one.1);
        unlike = neighbours_first (c ∷ (d ∷ row)) (d ∷ row) rows (λ next apart p. apart (sym same ∙ p)) h.unlike;
      } in
      let i = row_settles d row rows filled g e in
      ap (lead c) i ∙ sym (goes_on (one_type k) c d (row ++ joined rows) (one_from_alike c d (sym same)))

  pub settled : (rows : List (List (Shown A))) → AllByRecursion (λ r. 0 < length r) rows → ByType k rows → rows ≡ stretches (one_type k) (joined rows)
  settled [] filled h = refl
  settled ([] ∷ rows) filled h = absurd (omega (arith, filled.0))
  settled ((c ∷ row) ∷ rows) filled h =
      row_settles c row rows filled.1 h (settled rows filled.1 (record { one = h.one.1; unlike = neighbours_rest (c ∷ row) rows h.unlike }))
