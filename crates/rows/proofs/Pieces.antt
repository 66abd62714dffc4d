-- Every cell of a row that calls made is one piece of the splitter.
use Rattle.std.proofs.Common.{◌≡◌, ℕ, zero, suc, ◌-◌, ◌<◌, ◌≤◌, Bool, true, false, cond, not, List, [], ◌∷◌, ◌++◌, map, length, take, drop, Some, None, Option, sym, refl, ap, ◌∙◌, subst, inl, inr, arith}
use Rattle.std.specs.List.{AllByRecursion}
use Rattle.std.proofs.ByRecursion.{All-map, All-weaker}
use Rattle.std.proofs.lemmas.List.{length-take-le, take-append-drop}
use Rattle.std.proofs.lemmas.Bool.{not-false, eqb-true, eq-eqb}
use Rattle.cells.specs.Cells.{Shown, blank_with}
use Rattle.cells.specs.Cleaning.{space, unclean, clean}
use Rattle.cells.specs.Kinds.{Kind}
use Rattle.cells.specs.Refusals.{first_of}
use Rattle.cells.specs.declared.refusal.Refusal.{Refusal}
use Rattle.cells.specs.declared.refusal.Refusal.TheVariants.{Fuses, Full}
use Rattle.splitters.specs.Splits.{Splits}
use Rattle.splitters.specs.Pieces.{cut, pieces}
use Rattle.splitters.specs.Graphemes.{one_piece}
use Rattle.rows.specs.Spread.{spread}
use Rattle.rows.specs.Rows.{State, Room}
use Rattle.rows.specs.Givens.{cell_refusals, cell_of, cells_of}
use Rattle.rows.specs.Edits.{text_refusals, set_refusals, insert_refusals, split_second}
use Rattle.rows.specs.Wraps.{greedy, wrap}
use Rattle.rows.specs.Packing.{or_else, take_refusal, behind, first_some, compaction, fuses, lacks, grid_rule}
use Rattle.rows.specs.Calls.{FromText, SetCell, InsertCell, EraseCell, RemoveCell, PruneTrailingBlanks, Resize, SetLastCellWasWrapped, Clear, DropLast, Take, Call, Alter, AppendLine, SplitOff, Ask, Compact, Expand, edit, step, after, new_row}
use Rattle.rows.specs.Making.{Piece, Appends, Made, fresh, called, moved, filled, Likewise, TenOrEleven, Packer, KeepingTo}
use Rattle.rows.proofs.Refusing.{none_fits}
use Rattle.rows.proofs.Kept.{brings, all_edit, all_unless, all_second, all_wrap}

module _ (p : Splits) where
  -- a text that is good and one piece
  abbrev One : List ℕ → Type 0
  One t = (p.good t ≡ true) × (p.first t ≡ length t)

  first_within : (t : List ℕ) → p.good t ≡ true → 0 < length t → p.first t ≤ length t
  first_within t g l = let e = p.within t [] g p.empty l in omega arith

  one_space : One space
  one_space =
      let s = p.some space p.blank (omega arith) in
      let w = first_within space p.blank (omega arith) in
      (p.blank, omega arith)

  one_first : (t : List ℕ) → p.good t ≡ true → 0 < length t → One (take (p.first t) t)
  one_first t g l =
      let n = p.first t in
      let s : 0 < n = p.some t g l in
      let w : n ≤ length t = first_within t g l in
      let k : length (take n t) ≡ n = length-take-le n t w in
      let q = p.within (take n t) (drop n t) (p.piece t g) (p.rest t g) (omega arith) in
      let r : p.first (take n t ++ drop n t) ≡ n = ap p.first (take-append-drop n t) in
      (p.piece t g, omega arith)

  back : (n b : ℕ) (t : List ℕ) → 0 < n → (b ∷ take (n - 1) t ≡ take n (b ∷ t)) × (drop (n - 1) t ≡ drop n (b ∷ t))
  back zero b t l = absurd (omega arith)
  back (suc n) b t l = let e : suc n - 1 ≡ n = omega arith in (rw e, rw e)

  one_cut : (fuel : ℕ) (t : List ℕ) → p.good t ≡ true → AllByRecursion One (cut p.first fuel t)
  one_cut zero t g = tt
  one_cut (suc fuel) [] g = tt
  one_cut (suc fuel) (b ∷ t) g =
      let e = back (p.first (b ∷ t)) b t (p.some (b ∷ t) g (omega arith)) in (
        subst One (sym e.0) (one_first (b ∷ t) g (omega arith)),
        one_cut fuel (drop (p.first (b ∷ t) - 1) t) (ap p.good e.1 ∙ p.rest (b ∷ t) g),
      )

  one_clean : (t : List ℕ) → One t → One (clean t)
  one_clean t h = elim (unclean t) as (λ b. One (cond b space t)) [ true ↦ one_space | false ↦ h ]

  module _ {A : Type 0} where
    piece_blank : (a : A) → Piece p (blank_with a)
    piece_blank a = record { good = one_space.0; one = one_space.1 }

    pieces_text : (a : A) (t : List ℕ) → p.good t ≡ true → AllByRecursion (Piece p) (cells_of p a t)
    pieces_text a t g =
        All-map (Piece p) (cell_of p a) (pieces p.first t)
        (All-weaker One (λ q. Piece p (cell_of p a q)) (λ q h. let e = one_clean q h in record { good = e.0; one = e.1 }) (pieces p.first t) (one_cut (length t) t g))

    piece_given : (c : Shown A) → not (p.good c.text) ≡ false → not (one_piece p c.text) ≡ false → Piece p c
    piece_given c g o = record { good = not-false (p.good c.text) g; one = eqb-true (p.first c.text) (length c.text) (not-false (one_piece p c.text) o) }

    no_refusal : (c : Shown A) → Piece p c → first_of (cell_refusals p c) ≡ None
    no_refusal c h = rw (h.good, eq-eqb (p.first c.text) (length c.text) h.one)

or_first : (o r : Option Refusal) → or_else o r ≡ None → o ≡ None
or_first (Some why) r e = e
or_first None r e = refl

module _ {A : Type 0} (k : Kind A) (p : Splits) where
  brought : (room : Room) (s o : State A) (c : Call A) → Appends c o → AllByRecursion (Piece p) o.cells → (edit k p room s c).refusal ≡ None → AllByRecursion (Piece p) (brings p c)
  brought room s o (Alter (FromText t a seqno)) u h e = pieces_text p a t (not-false (p.good t) (none_fits (text_refusals p room t a) e).0)
  brought room s o (Alter (SetCell x c seqno)) u h e = let n = none_fits (set_refusals p room x c) e in (piece_given p c n.0 n.1.0, tt)
  brought room s o (Alter (InsertCell x c margin seqno)) u h e = let n = none_fits (insert_refusals k p room x c margin (spread s.cells)) e in (piece_given p c n.0 n.1.0, tt)
  brought room s o (Alter (EraseCell x seqno)) u h e = tt
  brought room s o (Alter (RemoveCell x seqno)) u h e = tt
  brought room s o (Alter (PruneTrailingBlanks seqno)) u h e = tt
  brought room s o (Alter (Resize width seqno)) u h e = tt
  brought room s o (Alter (SetLastCellWasWrapped on seqno)) u h e = tt
  brought room s o (Alter Clear) u h e = tt
  brought room s o (Alter DropLast) u h e = tt
  brought room s o (Alter (Take c)) u h e =
      let n = none_fits (cell_refusals p c) (or_first (first_of (cell_refusals p c)) (grid_rule room s.cells c) e) in
      (piece_given p c n.0 n.1.0, tt)
  brought room s o (AppendLine other seqno) u h e = subst (λ (v : State A). AllByRecursion (Piece p) v.cells) (sym u) h
  brought room s o (SplitOff second idx seqno) u h e = tt
  brought room s o (Ask question) u h e = tt
  brought room s o Compact u h e = tt
  brought room s o Expand u h e = tt

  made_pieces : (s : State A) → Made k p s → AllByRecursion (Piece p) s.cells
  made_pieces s (fresh n) = tt
  made_pieces s (called room t o c m l u) =
      all_unless (Piece p) (edit k p room t c).refusal t.cells (edit k p room t c).cells (made_pieces t m)
      (λ e. all_edit k (Piece p) (piece_blank p) (λ on d h. record { good = h.good; one = h.one }) p room t c (brought room t o c u (made_pieces o l) e) (made_pieces t m))
  made_pieces s (moved second t idx seqno m) =
      all_unless (Piece p) (split_second second idx seqno t).refusal [] (split_second second idx seqno t).cells tt
      (λ e. all_second k (Piece p) (piece_blank p) (λ on d h. record { good = h.good; one = h.one }) idx t.cells (made_pieces t m))
  made_pieces s (filled second t at width seqno m) =
      all_unless (Piece p) (wrap greedy k second at width seqno t).refusal [] (wrap greedy k second at width seqno t).cells tt
      (λ e. all_wrap k (Piece p) (piece_blank p) (λ on d h. record { good = h.good; one = h.one }) greedy width at t.cells (made_pieces t m))

  made_after : (room : Room) (s : State A) (cs : List (Call A)) → Made k p s → AllByRecursion (Likewise k p) cs → Made k p (after k p room s cs)
  made_after room s [] m h = m
  made_after room s (c ∷ cs) m h = made_after room (step k p room s c) cs (called room s h.0.0 c m h.0.1 h.0.2) h.1

all_behind : {X : Type 0} (P : X → Type 0) (xs : List X) → AllByRecursion P xs → AllByRecursion (λ s. P s.1) (behind xs)
all_behind P [] h = tt
all_behind P (x ∷ xs) h = (h.0, All-map (λ s. P s.1) (λ s. (x ∷ s.0, s.1)) (behind xs) (all_behind P xs h.1))

first_only : (os : List (Option Refusal)) → AllByRecursion TenOrEleven os → TenOrEleven (first_some os)
first_only [] h why e = let z : ◌≡◌ {A = ℕ} 0 1 = cc in absurd (omega arith)
first_only (Some x ∷ os) h why e = h.0 why e
first_only (None ∷ os) h why e = first_only os h.1 why e

only_two : (a b : Bool) → TenOrEleven (first_of ((a, Fuses) ∷ (b, Full) ∷ []))
only_two true b why e = inl (cc)
only_two false true why e = inr (cc)
only_two false false why e = let z : ◌≡◌ {A = ℕ} 0 1 = cc in absurd (omega arith)

module _ {A : Type 0} (k : Kind A) (p : Splits) where
  taken : (rule : List (Shown A) → Shown A → Option Refusal) (cells : List (Shown A)) (c : Shown A) → Piece p c → Packer rule → TenOrEleven (take_refusal p rule cells c)
  taken rule cells c h r why e = r cells c why (sym (ap (λ o. or_else o (rule cells c)) (no_refusal p c h)) ∙ e)

  pub compacts : (cells : List (Shown A)) (rule : List (Shown A) → Shown A → Option Refusal) → AllByRecursion (Piece p) cells → Packer rule → TenOrEleven (compaction p rule cells)
  compacts cells rule h r =
      first_only (map (λ s. take_refusal p rule s.0 s.1) (behind cells))
      (All-map TenOrEleven (λ s. take_refusal p rule s.0 s.1) (behind cells)
      (All-weaker (λ s. Piece p s.1) (λ s. TenOrEleven (take_refusal p rule s.0 s.1)) (λ s u. taken rule s.0 s.1 u r) (behind cells) (all_behind (Piece p) cells h)))

  pub keeping_to : KeepingTo k p
  keeping_to = record {
    calls = λ room n cs h. made_after k p room (new_row n) cs (fresh n) h;
    pieces = made_pieces k p;
    compacts = λ s rule m r. compacts s.cells rule (made_pieces k p s m) r;
    runs = λ runs bytes cells c. only_two (fuses p cells c) (lacks k runs bytes (cells ++ (c ∷ [])));
  }
