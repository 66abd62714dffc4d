-- Stretches turned into columns are in order and disjoint, and cover their cells.
use Rattle.std.proofs.Common.{◌≡◌, ℕ, ◌+◌, ◌<◌, ◌≤◌, true, false, not, ◌||◌, ◌⊎◌, List, [], ◌∷◌, ◌++◌, map, length, take, sym, refl, ap, ◌∙◌, subst, inl, inr, ⊎_elim, append-nil, arith}
use lib.Seq.{take-append_seam}
use Rattle.std.specs.List.{AllByRecursion}
use Rattle.std.proofs.ByRecursion.{All-weaker, All-map}
use Rattle.std.proofs.lemmas.Bool.{cases_Bool}
use Rattle.cells.specs.Cells.{Shown, is_plain}
use Rattle.cells.specs.Kinds.{Kind}
use Rattle.rows.specs.Cuttings.{Neighbours}
use Rattle.rows.specs.Lists.{span, joined}
use Rattle.rows.specs.Trims.{any, up_to_last, not_plain}
use Rattle.rows.specs.WrapLaws.{Trimmed}
use Rattle.rows.specs.Zones.{stretches, kept, cell_type, one_type, type_of, Zone, moved, in_columns, zones}
use Rattle.rows.specs.Packing.{without_last}
use Rattle.rows.specs.ZoneLaws.{SomeOf, Kept, Stretched, HasColumn, Ordered, Zoned}
use Rattle.rows.proofs.Lengths.{span_take_le}
use Rattle.rows.proofs.Spans.{span_append}
use Rattle.rows.proofs.Stretching.{stretches_cutting, stretches_by_type, settled}
use Rattle.rows.proofs.Trimming.{trims}

module _ {X : Type 0} where
  all_left : (P : X → Type 0) (xs ys : List X) → AllByRecursion P (xs ++ ys) → AllByRecursion P xs
  all_left P [] ys h = tt
  all_left P (x ∷ xs) ys h = (h.0, all_left P xs ys h.1)

  all_right : (P : X → Type 0) (xs ys : List X) → AllByRecursion P (xs ++ ys) → AllByRecursion P ys
  all_right P [] ys h = h
  all_right P (x ∷ xs) ys h = all_right P xs ys h.1

  neighbours_map : (R S : X → X → Type 0) (f : X → X) → ((x y : X) → R x y → S (f x) (f y)) → (xs : List X) → Neighbours R xs → Neighbours S (map f xs)
  neighbours_map R S f g [] h = tt
  neighbours_map R S f g (x ∷ []) h = tt
  neighbours_map R S f g (x ∷ (y ∷ ys)) h = (g x y h.0, neighbours_map R S f g (y ∷ ys) h.1)

  some_map : (P Q : X → Type 0) (f : X → X) → ((x : X) → P x → Q (f x)) → (xs : List X) → SomeOf P xs → SomeOf Q (map f xs)
  some_map P Q f g [] h = h
  some_map P Q f g (x ∷ xs) h = ⊎_elim (λ p. inl (g x p)) (λ p. inr (some_map P Q f g xs p)) h

  -- where two ways to divide a list meet: a place lies in the first part or behind it
  abbrev InPart : List X → List X → List X → List X → Type 0
  InPart part rest before behind = (x : X) × (mid : List X) × (part ≡ before ++ (x ∷ mid)) × ((x ∷ mid) ++ rest ≡ behind)

  abbrev PastPart : List X → List X → List X → List X → Type 0
  PastPart part rest before behind = (more : List X) × (before ≡ part ++ more) × (more ++ behind ≡ rest)

  in_more : (x y : X) (part rest before behind : List X) → y ≡ x → InPart part rest before behind → InPart (x ∷ part) rest (y ∷ before) behind
  in_more x y part rest before behind e p = let q = p.2 in (p.0, p.1, cc, p.3)

  past_more : (x y : X) (part rest before behind : List X) → y ≡ x → PastPart part rest before behind → PastPart (x ∷ part) rest (y ∷ before) behind
  past_more x y part rest before behind e p = let q = p.1 in (p.0, cc, p.2)

  place : (part rest before behind : List X) → before ++ behind ≡ part ++ rest → InPart part rest before behind ⊎ PastPart part rest before behind
  place [] rest before behind e = inr (before, refl, e)
  place (x ∷ part) rest [] behind e = inl (x, part, refl, sym e)
  place (x ∷ part) rest (y ∷ before) behind e =
      let same : y ≡ x = cc in
      let tail : before ++ behind ≡ part ++ rest = cc in
      ⊎_elim (λ p. inl (in_more x y part rest before behind same p)) (λ p. inr (past_more x y part rest before behind same p)) (place part rest before behind tail)

module _ {A : Type 0} where
  abbrev Solid : List (Shown A) → Type 0
  Solid cs = AllByRecursion (λ c. 0 < c.width) cs

  without_last_shorter : (row : List (Shown A)) → 0 < length row → Solid row → span (without_last row) < span row
  without_last_shorter [] some h = absurd (omega arith)
  without_last_shorter (c ∷ []) some h = omega (arith, h.0)
  without_last_shorter (c ∷ (d ∷ row)) some h = let i = without_last_shorter (d ∷ row) (omega arith) h.1 in omega arith

  without_last_reaches : (before : List (Shown A)) (c : Shown A) (mid : List (Shown A)) → span before ≤ span (without_last (before ++ (c ∷ mid)))
  without_last_reaches [] c mid = omega arith
  without_last_reaches (b ∷ []) c mid = omega arith
  without_last_reaches (b ∷ (d ∷ before)) c mid = let i = without_last_reaches (d ∷ before) c mid in omega arith

module _ {A : Type 0} (k : Kind A) where
  zones_each : (rows : List (List (Shown A))) → AllByRecursion (λ z. z.first ≤ z.last) (in_columns k rows)
  zones_each [] = tt
  zones_each (row ∷ rows) =
      (omega arith, All-map _ (moved (span row)) (in_columns k rows) (All-weaker (λ z. z.first ≤ z.last) _ (λ z h. omega arith) (in_columns k rows) (zones_each rows)))

  abbrev Before : Zone → Zone → Type 0
  Before z next = z.last < next.first

  abbrev Unlike : Zone → Zone → Type 0
  Unlike z next = z.semantic ≡ next.semantic → ⊥

  zones_disjoint : (rows : List (List (Shown A))) → AllByRecursion (λ r. 0 < length r) rows → Solid (joined rows) → Neighbours Before (in_columns k rows)
  zones_disjoint [] filled solid = tt
  zones_disjoint (row ∷ []) filled solid = tt
  zones_disjoint (row ∷ (next ∷ rows)) filled solid =
      let s = without_last_shorter row filled.0 (all_left (λ c. 0 < c.width) row (joined (next ∷ rows)) solid) in (
        omega arith,
        neighbours_map Before Before (moved (span row)) (λ y z h. omega arith) (in_columns k (next ∷ rows))
            (zones_disjoint (next ∷ rows) filled.1 (all_right (λ c. 0 < c.width) row (joined (next ∷ rows)) solid)),
      )

  zones_unlike : (rows : List (List (Shown A))) → Neighbours (λ row next. type_of k row ≡ type_of k next → ⊥) rows → Neighbours Unlike (in_columns k rows)
  zones_unlike [] h = tt
  zones_unlike (row ∷ []) h = tt
  zones_unlike (row ∷ (next ∷ rows)) h =
      (h.0, neighbours_map Unlike Unlike (moved (span row)) (λ y z u. u) (in_columns k (next ∷ rows)) (zones_unlike (next ∷ rows) h.1))

  abbrev Holds : List (Shown A) → Shown A → Zone → Type 0
  Holds before c z = HasColumn z (span before) × (z.semantic ≡ cell_type k c)

  zones_cover : (rows : List (List (Shown A))) → AllByRecursion (λ row. AllByRecursion (λ c. cell_type k c ≡ type_of k row) row) rows
      → (before behind : List (Shown A)) (c : Shown A) → before ++ (c ∷ behind) ≡ joined rows → SomeOf (Holds before c) (in_columns k rows)
  zones_cover [] one [] behind c e = let z : ◌≡◌ {A = ℕ} 0 1 = cc in absurd (omega arith)
  zones_cover [] one (b ∷ before) behind c e = let z : ◌≡◌ {A = ℕ} 0 1 = cc in absurd (omega arith)
  zones_cover (row ∷ rows) one before behind c e =
      ⊎_elim
      (λ p.
      let same : p.0 ≡ c = cc p.3 in
      let all = all_right (λ d. cell_type k d ≡ type_of k row) before (p.0 ∷ p.1) (subst (λ xs. AllByRecursion (λ d. cell_type k d ≡ type_of k row) xs) p.2 one.0) in
      let f = without_last_reaches before p.0 p.1 in
      let g : span (without_last row) ≡ span (without_last (before ++ (p.0 ∷ p.1))) = ap (λ xs. span (without_last xs)) p.2 in
      inl ((omega arith, omega arith), sym all.0 ∙ ap (cell_type k) same))
      (λ p.
      let s : span before ≡ span row + span p.0 = ap span p.1 ∙ span_append row p.0 in
      inr (some_map (Holds p.0 c) (Holds before c) (moved (span row)) (λ z h. ((omega (arith, h.0.0), omega (arith, h.0.1)), h.1)) (in_columns k rows)
      (zones_cover rows one.1 p.0 behind c p.2)))
      (place row (joined rows) before (c ∷ behind) e)

  zones_end : (rows : List (List (Shown A))) → AllByRecursion (λ r. 0 < length r) rows → Solid (joined rows) → AllByRecursion (λ z. z.last < span (joined rows)) (in_columns k rows)
  zones_end [] filled solid = tt
  zones_end (row ∷ rows) filled solid =
      let s = without_last_shorter row filled.0 (all_left (λ c. 0 < c.width) row (joined rows) solid) in
      let a = span_append row (joined rows) in (
        omega arith,
        All-map _ (moved (span row)) (in_columns k rows) (All-weaker (λ z. z.last < span (joined rows)) _ (λ z h. omega arith) (in_columns k rows)
            (zones_end rows filled.1 (all_right (λ c. 0 < c.width) row (joined rows) solid))),
      )

  kept_trimmed : (cs : List (Shown A)) → any (not_plain k) cs ≡ true → kept k cs ≡ up_to_last (not_plain k) cs
  kept_trimmed cs e = rw e

  kept_whole : (cs : List (Shown A)) → any (not_plain k) cs ≡ false → kept k cs ≡ cs
  kept_whole cs e = rw e

  all_plain : (cs : List (Shown A)) → AllByRecursion (λ c. is_plain k c ≡ true) cs → any (not_plain k) cs ≡ false
  all_plain [] h = refl
  all_plain (c ∷ cs) h = ap (λ b. not b || any (not_plain k) cs) h.0 ∙ all_plain cs h.1

  kept_cells : (cs : List (Shown A)) → Kept k cs
  kept_cells cs = record {
    trimmed = λ e. subst (Trimmed (not_plain k) cs) (sym (kept_trimmed cs e)) (trims (not_plain k) cs);
    blanks = λ h. kept_whole cs (all_plain cs h);
  }

  kept_without_last : (cs : List (Shown A)) → (dropped : List (Shown A)) × (kept k cs ++ dropped ≡ cs)
  kept_without_last cs =
      ⊎_elim
      (λ e. let t = (kept_cells cs).trimmed e in (t.dropped, t.joins))
      (λ e. ([], append-nil (kept k cs) ∙ kept_whole cs e))
      (cases_Bool (any (not_plain k) cs))

  abbrev rows : List (Shown A) → List (List (Shown A))
  rows cs = stretches (one_type k) (kept k cs)

  stretched : (cs : List (Shown A)) → Stretched k cs (zones k cs)
  stretched cs = record {
    rows = rows cs;
    cutting = stretches_cutting (one_type k) (kept k cs);
    by_type = stretches_by_type k (kept k cs);
    columns = refl;
    only = λ others cut by. settled k others cut.filled by ∙ ap (stretches (one_type k)) cut.joins;
  }

  -- cells with none behind that is kept take all the kept columns
  past_kept : (cs before behind : List (Shown A)) → before ++ behind ≡ cs → length (kept k cs) ≤ length before → span (kept k cs) ≤ span before
  past_kept cs before behind e h =
      let f = kept_without_last cs in
      let x : span (take (length (kept k cs)) cs) ≡ span (kept k cs) = ap (λ xs. span (take (length (kept k cs)) xs)) (sym f.1) ∙ ap span (take-append_seam (kept k cs) f.0) in
      let y : span (take (length before) cs) ≡ span before = ap (λ xs. span (take (length before) xs)) (sym e) ∙ ap span (take-append_seam before behind) in
      let m = span_take_le (length (kept k cs)) (length before) cs h in
      omega arith

  ordered : (cs : List (Shown A)) → Solid cs → Ordered k cs (zones k cs)
  ordered cs solid =
      let f = kept_without_last cs in
      let cut = stretches_cutting (one_type k) (kept k cs) in
      let by = stretches_by_type k (kept k cs) in
      let s : Solid (joined (rows cs)) = subst Solid (sym cut.joins) (all_left (λ c. 0 < c.width) (kept k cs) f.0 (subst Solid (sym f.1) solid)) in
      record {
        each = zones_each (rows cs);
        disjoint = zones_disjoint (rows cs) cut.filled s;
        unlike = zones_unlike (rows cs) by.unlike;
        covers = λ before behind c e. zones_cover (rows cs) by.one before behind c (e ∙ sym cut.joins);
        left_out = λ before behind e h.
            let p = past_kept cs before behind e h in
            let j : span (joined (rows cs)) ≡ span (kept k cs) = ap span cut.joins in
            All-weaker (λ z. z.last < span (joined (rows cs))) _ (λ z l. omega arith) (zones k cs) (zones_end (rows cs) cut.filled s);
      }

pub zoned : {A : Type 0} → Zoned A
zoned = record { kept = kept_cells; stretched = stretched; ordered = ordered }
