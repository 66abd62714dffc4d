-- What a call did, from its refusals and its columns.
use Rattle.std.proofs.Common.{◌≡◌, ℕ, zero, suc, ◌+◌, ◌-◌, ◌<◌, ◌≤◌, max, Bool, true, false, cond, not, eqb, ltb, List, [], ◌∷◌, ◌++◌, length, take, drop, replicate, Some, None, Ok, Err, Option, Result, sym, refl, ap, ◌∙◌, subst, inl, inr, arith}
use Rattle.std.specs.List.{AllByRecursion}
use Rattle.std.proofs.lemmas.List.{length-append, length-replicate}
use Rattle.std.proofs.lemmas.Bool.{ltb-false, lt-ltb, le-ltb, eqb-false, cases_Bool}
use Rattle.cells.specs.Cells.{Shown, plain_blank}
use Rattle.cells.specs.Kinds.{Kind}
use Rattle.cells.specs.Refusals.{first_of, verdict}
use Rattle.cells.specs.declared.refusal.Refusal.{Refusal}
use Rattle.cells.specs.declared.refusal.Refusal.TheVariants.{NotGood, TooLong, PastCapacity, PartsWide, TooSmall, Full}
use Rattle.splitters.specs.Splits.{Splits}
use Rattle.rows.specs.Lists.{span}
use Rattle.rows.specs.Spread.{spread}
use Rattle.rows.specs.Bounds.{Sized}
use Rattle.rows.specs.Trims.{up_to_last, not_plain}
use Rattle.rows.proofs.Plain.{pruned}
use Rattle.rows.proofs.Spans.{span_append}
use Rattle.rows.specs.Packing.{grid_rule}
use Rattle.rows.specs.Columns.{shown, Whole, inside}
use Rattle.rows.specs.Rows.{Room, Panel, Edit, Done, state, stays, unless, passes}
use Rattle.rows.specs.Givens.{cell_refusals}
use Rattle.rows.specs.Edits.{becomes, split_refusals, split_first, split_second, made_room, parts_wide, some_cell, from_text, text_refusals, set_refusals, insert_refusals}
use Rattle.columns.specs.Becoming.{held, Becomes}
use Rattle.columns.specs.declared.cols.Columns.{Columns}
use Rattle.rows.proofs.Refusing.{Clear, none_fits, passed}

-- refusals in their order: passed over, or given
pub skip : (ps qs : List (Bool × Refusal)) → first_of ps ≡ None → first_of (ps ++ qs) ≡ first_of qs
skip [] qs e = refl
skip (p ∷ ps) qs e = let a = passed p.0 p.1 (first_of ps) e in rw (a.0, skip ps qs a.1)

pub skip_one : (b : Bool) (e : Refusal) (ps : List (Bool × Refusal)) → b ≡ false → first_of ((b, e) ∷ ps) ≡ first_of ps
skip_one b e ps h = rw h

pub hit : (b : Bool) (e : Refusal) (ps : List (Bool × Refusal)) → b ≡ true → first_of ((b, e) ∷ ps) ≡ Some e
hit b e ps h = rw h

pub kept : (ps qs : List (Bool × Refusal)) (why : Refusal) → first_of ps ≡ Some why → first_of (ps ++ qs) ≡ Some why
kept [] qs why e = let z : ◌≡◌ {A = ℕ} 0 1 = cc in absurd (omega arith)
kept (p ∷ ps) qs why e = elim (cases_Bool p.0) [ inl t ↦ rw t (rw t at e) | inr f ↦ rw f (kept ps qs why (rw f at e)) ]

-- what is known where an insertion is not refused
pub record Insertable {A : Type 0} (k : Kind A) (room : Room) (x : ℕ) (c : Shown A) (m : ℕ) (xs : List (Shown A)) : Type 0 where
  pub some : 0 < m
  pub fits : length (made_room k x m xs) + c.width ≤ room.capacity
  pub parts : parts_wide k x m xs ≡ false

above : (m : ℕ) → eqb m 0 ≡ false → 0 < m
above m e = let h : m ≡ 0 → ⊥ = eqb-false m 0 e in omega arith

pub insertable : {A : Type 0} (k : Kind A) (p : Splits) (room : Room) (x : ℕ) (c : Shown A) (m : ℕ) (xs : List (Shown A))
    → first_of (insert_refusals k p room x c m xs) ≡ None → Insertable k room x c m xs
insertable k p room x c m xs e =
    let n : Clear (insert_refusals k p room x c m xs) = none_fits (insert_refusals k p room x c m xs) e in
    record {
      some = above m n.1.1.0;
      fits = ltb-false room.capacity (length (made_room k x m xs) + c.width) n.1.1.1.0;
      parts = n.1.1.1.1.0;
    }

-- a grid takes what fits
pub room_left : {A : Type 0} (room : Room) (cells : List (Shown A)) (c : Shown A) → span cells + c.width ≤ room.capacity → grid_rule room cells c ≡ None
room_left room cells c l = ap (λ b. first_of ((b, Full) ∷ [])) (le-ltb room.capacity (span cells + c.width) l)

pub room_none : {A : Type 0} (room : Room) (cells : List (Shown A)) (c : Shown A) → room.capacity < span cells + c.width → grid_rule room cells c ≡ Some Full
room_none room cells c l = ap (λ b. first_of ((b, Full) ∷ [])) (lt-ltb room.capacity (span cells + c.width) l)

-- what an answer says of the refusals
pub accepted : (o : Option Refusal) → ◌≡◌ {A = Result (Unit {0}) Refusal} (Ok tt) (verdict o tt) → o ≡ None
accepted None e = refl
accepted (Some why) e = let z : ◌≡◌ {A = ℕ} 0 1 = cc in absurd (omega arith)

pub given_up : (o : Option Refusal) (why : Refusal) → ◌≡◌ {A = Result (Unit {0}) Refusal} (Err why) (verdict o tt) → o ≡ Some why
given_up None why e = let z : ◌≡◌ {A = ℕ} 0 1 = cc in absurd (omega arith)
given_up (Some w) why e = let h : why ≡ w = cc in rw h

-- a call that was refused, and one that was carried out
pub refused : {A : Type 0} (e : Edit A) (s : Panel A) (why : Refusal) → e.refusal ≡ Some why → Done e s (Err why) s
refused e s why h = record {
  says = sym (ap (λ o. verdict o tt) h);
  row = sym (ap (λ o. unless o s.cells e.cells) h);
  change = sym (ap (λ o. unless o s.number e.number) h);
  room = refl;
}

pub carried : {A : Type 0} (e : Edit A) (s t : Panel A) → e.refusal ≡ None → t.cells ≡ e.cells → t.number ≡ e.number → t.sizes ≡ s.sizes → Done e s (Ok tt) t
carried e s t h r n z = record {
  says = sym (ap (λ o. verdict o tt) h);
  row = r ∙ sym (ap (λ o. unless o s.cells e.cells) h);
  change = n ∙ sym (ap (λ o. unless o s.number e.number) h);
  room = z;
}

-- what a column store means, from its columns and its number
abbrev pub panel : {A : Type 0} → Columns A → ℕ → Panel A
panel s n = record { cells = shown (held s); number = n; sizes = s.limit ∷ [] }

pub same_sizes : {A : Type 0} {s t : Columns A} {xs : List (Shown A)} → Becomes s t xs → t.limit ∷ [] ≡ s.limit ∷ []
same_sizes b = ap (λ l. l ∷ []) b.limit

-- what stays the same, refused or not
pub unless_same : {X : Type 0} (o : Option Refusal) (x : X) → x ≡ unless o x x
unless_same None x = refl
unless_same (Some why) x = refl

-- an edit that is said of the columns of the shown cells, on whole columns
module _ {A : Type 0} (F : List (Shown A) → Edit A) (s : Columns A) (n : ℕ) (w : Whole (held s)) where
  on_columns : {r : Result (Unit {0}) Refusal} {t : Panel A} → Done (F (held s)) (panel s n) r t → Done (F (spread (shown (held s)))) (panel s n) r t
  on_columns {r} {t} d = subst (λ v. Done (F v) (panel s n) r t) (sym w) d

  pub refused_columns : (why : Refusal) → (F (held s)).refusal ≡ Some why → Done (F (spread (shown (held s)))) (panel s n) (Err why) (panel s n)
  refused_columns why h = on_columns (refused (F (held s)) (panel s n) why h)

  pub carried_columns : (t : Columns A) (cols : List (Shown A)) (m : ℕ) → (F (held s)).refusal ≡ None → Becomes s t cols → shown cols ≡ (F (held s)).cells → m ≡ (F (held s)).number
      → Done (F (spread (shown (held s)))) (panel s n) (Ok tt) (panel t m)
  carried_columns t cols m h b e q = on_columns (carried (F (held s)) (panel s n) (panel t m) h (ap shown b.row ∙ e) q (same_sizes b))

-- an edit that goes by a test
pub by_test : {A : Type 0} (b t : Bool) (e f : Edit A) {p q : Panel A} {r : Result (Unit {0}) Refusal} → b ≡ t → Done (cond t e f) p r q → Done (cond b e f) p r q
by_test b t e f {p} {q} {r} h d = subst (λ v. Done (cond v e f) p r q) (sym h) d

-- an edit at a column, which does nothing at or past the end
module _ {A : Type 0} (G : List (Shown A) → List (Shown A)) (x seqno : ℕ) (s : Columns A) (n : ℕ) (w : Whole (held s)) where
  abbrev at_column : List (Shown A) → Edit A
  at_column v = cond (ltb x (length v)) (becomes [] (G v) seqno (state (panel s n))) (stays (state (panel s n)))

  pub within_end : (t : Columns A) (m : ℕ) → x < length (held s) → Becomes s t (G (held s)) → m ≡ max n seqno
      → Done (at_column (spread (shown (held s)))) (panel s n) (Ok tt) (panel t m)
  within_end t m l b q =
      let p = state (panel s n) in
      on_columns at_column s n w
      (by_test (ltb x (length (held s))) true (becomes [] (G (held s)) seqno p) (stays p) (lt-ltb x (length (held s)) l)
      (carried (becomes [] (G (held s)) seqno p) (panel s n) (panel t m) refl (ap shown b.row) q (same_sizes b)))

pub set_clear : {A : Type 0} (p : Splits) (room : Room) (x : ℕ) (c : Shown A) → first_of (cell_refusals p c) ≡ None → x + c.width ≤ room.capacity → first_of (set_refusals p room x c) ≡ None
set_clear p room x c h l =
    skip (cell_refusals p c) ((passes room (x + c.width), PastCapacity) ∷ []) h
    ∙ skip_one (passes room (x + c.width)) PastCapacity [] (le-ltb room.capacity (x + c.width) l)

-- pruning drops as many cells as columns
span_blanks : {A : Type 0} (k : Kind A) (n : ℕ) → span (replicate n (plain_blank k)) ≡ n
span_blanks k zero = refl
span_blanks k (suc n) = let e = span_blanks k n in omega arith

pub prune_count : {A : Type 0} (k : Kind A) (cells : List (Shown A)) → AllByRecursion Sized cells
    → length cells + span (up_to_last (not_plain k) cells) ≡ length (up_to_last (not_plain k) cells) + span cells
prune_count k cells h =
    let r = pruned k cells h in
    let kept = up_to_last (not_plain k) cells in
    let a = ap length r.1 ∙ length-append kept (replicate r.0 (plain_blank k)) in
    let b = length-replicate r.0 (plain_blank k) in
    let d = ap span r.1 ∙ span_append kept (replicate r.0 (plain_blank k)) in
    let e = span_blanks k r.0 in
    omega arith

-- a row with a cell
pub some_same : {A : Type 0} (k : Kind A) (cs ds : List (Shown A)) (c : Shown A) → cs ≡ ds ++ (c ∷ []) → some_cell k cs ≡ cs
some_same k [] [] c e = let z : ◌≡◌ {A = ℕ} 0 1 = cc in absurd (omega arith)
some_same k [] (d ∷ ds) c e = let z : ◌≡◌ {A = ℕ} 0 1 = cc in absurd (omega arith)
some_same k (x ∷ cs) ds c e = refl

pub some_fits : {A : Type 0} (k : Kind A) (cs : List (Shown A)) (n : ℕ) → span cs ≤ n → 0 < n → span (some_cell k cs) ≤ n
some_fits k [] n l p = omega arith
some_fits k (c ∷ cs) n l p = l

-- the empty text is always accepted, and leaves no cell
empty_text : {A : Type 0} (p : Splits) (room : Room) (a : A) → first_of (text_refusals p room [] a) ≡ None
empty_text p room a =
    ap (λ b. first_of ((not b, NotGood) ∷ (false, TooLong) ∷ (passes room 0, PastCapacity) ∷ [])) p.empty
    ∙ skip_one (passes room 0) PastCapacity [] (le-ltb room.capacity 0 (omega arith))

module _ {A : Type 0} (p : Splits) (room : Room) (a : A) (n : ℕ) {s t : Panel A} {r : Result (Unit {0}) Refusal} (d : Done (from_text p room [] a n) s r t) where
  pub emptied_cells : t.cells ≡ []
  emptied_cells = d.row ∙ ap (λ o. unless o s.cells []) (empty_text p room a)

  pub emptied_number : t.number ≡ n
  emptied_number = d.change ∙ ap (λ o. unless o s.number n) (empty_text p room a)

-- a row split
module _ {A : Type 0} (s : Columns A) (n : ℕ) (w : Whole (held s)) (room : Room) (idx seqno : ℕ) where
  abbrev first_part : List (Shown A) → Edit A
  first_part v = record { refusal = first_of (split_refusals room idx v); cells = shown (take idx v); number = n }

  abbrev second_part : List (Shown A) → Edit A
  second_part v = record { refusal = first_of (split_refusals room idx v); cells = shown (drop idx v); number = seqno }

  pub first_carried : (t : Columns A) → first_of (split_refusals room idx (held s)) ≡ None → Becomes s t (take idx (held s))
      → Done (split_first room idx (state (panel s n))) (panel s n) (Ok tt) (panel t n)
  first_carried t h b = carried_columns first_part s n w t (take idx (held s)) n h b refl refl

  pub second_carried : (q t : Panel A) → first_of (split_refusals room idx (held s)) ≡ None → t.cells ≡ shown (drop idx (held s)) → t.number ≡ seqno → t.sizes ≡ q.sizes
      → Done (split_second room idx seqno (state (panel s n))) q (Ok tt) t
  second_carried q t h e m z = subst (λ v. Done (second_part v) q (Ok tt) t) (sym w) (carried (second_part (held s)) q t h e m z)

  pub split_clear : inside idx (held s) ≡ false → length (held s) - idx ≤ room.capacity → first_of (split_refusals room idx (held s)) ≡ None
  split_clear e l =
      skip_one (inside idx (held s)) PartsWide ((passes room (length (held s) - idx), TooSmall) ∷ []) e
      ∙ skip_one (passes room (length (held s) - idx)) TooSmall [] (le-ltb room.capacity (length (held s) - idx) l)
