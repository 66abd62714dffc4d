-- The smallest number that fits is given.
use Rattle.std.proofs.Common.{◌≡◌, ℕ, ◌<◌, ◌≤◌, Bool, true, false, cond, ◌&&◌, ◌||◌, eqb, ltb, List, [], ◌∷◌, ◌++◌, length, Some, None, Option, sym, refl, ap, ◌∙◌, subst, inl, inr, arith}
use Rattle.std.proofs.lemmas.Bool.{both_ways, and_parts, or_from, and_left, ltb-true, ne_eqb, eq-eqb, cases_order}
use Rattle.cells.specs.Cells.{Shown}
use Rattle.cells.specs.Kinds.{Kind}
use Rattle.cells.specs.Refusals.{number, first_of}
use Rattle.cells.specs.declared.refusal.Refusal.{Refusal}
use Rattle.cells.specs.declared.refusal.Refusal.TheVariants.{NotGood, NotOnePiece, TooLong, BadWidth, MarginZero, PastCapacity, PartsWide, NoSuchRow, TooSmall, Fuses, Full, BadType}
use Rattle.splitters.specs.Splits.{Splits}
use Rattle.rows.specs.Rows.{State, Room, Edit, left}
use Rattle.rows.specs.Spread.{spread}
use Rattle.rows.specs.Givens.{cell_refusals}
use Rattle.rows.specs.Packing.{or_else, grid_refusals}
use Rattle.rows.specs.Asks.{Question, Length, Number, Capacity, NthCell, ColumnsAsStr, ComputeZones, Equals, Wrap, ask_refusals}
use Rattle.rows.specs.Calls.{FromText, SetCell, InsertCell, EraseCell, RemoveCell, PruneTrailingBlanks, Resize, SetLastCellWasWrapped, Clear, DropLast, Take, Call, Alter, AppendLine, SplitOff, Ask, Compact, Expand, settled, accepted, refusals, refusal, edit, step, packs}
use Rattle.rows.specs.Choosing.{fits, ascends_from, ascends, Smallest, Choosing}

-- a refusal is known by its number
refusal_of : ℕ → Refusal
refusal_of n =
    cond (eqb n 1) NotGood (cond (eqb n 2) NotOnePiece (cond (eqb n 3) TooLong (cond (eqb n 4) BadWidth (cond (eqb n 5) MarginZero (cond (eqb n 6) PastCapacity
    (cond (eqb n 7) PartsWide (cond (eqb n 8) NoSuchRow (cond (eqb n 9) TooSmall (cond (eqb n 10) Fuses (cond (eqb n 11) Full BadType))))))))))

refusal_back : (why : Refusal) → refusal_of (number why) ≡ why
unfolding refusal_of
refusal_back NotGood = refl
refusal_back NotOnePiece = refl
refusal_back TooLong = refl
refusal_back BadWidth = refl
refusal_back MarginZero = refl
refusal_back PastCapacity = refl
refusal_back PartsWide = refl
refusal_back NoSuchRow = refl
refusal_back TooSmall = refl
refusal_back Fuses = refl
refusal_back Full = refl
refusal_back BadType = refl

pub same_refusal : (x y : Refusal) → number x ≡ number y → x ≡ y
same_refusal x y e = sym (refusal_back x) ∙ ap refusal_of e ∙ refusal_back y

above : (n : ℕ) (ws : List (Bool × Refusal)) → ascends_from n ws ≡ true → (m : ℕ) → m ≤ n → fits m ws ≡ false
above n [] a m l = refl
above n (w ∷ ws) a m l =
    let h = and_parts (ltb n (number w.1)) (ascends_from (number w.1) ws) a in
    let g = ltb-true n (number w.1) h.0 in
    or_from (eqb (number w.1) m && w.0) (fits m ws)
    (and_left (eqb (number w.1) m) w.0 (ne_eqb (number w.1) m (λ e. omega arith)))
    (above (number w.1) ws h.1 m (omega arith))

module _ (n : ℕ) (why : Refusal) (ws : List (Bool × Refusal)) (a : ascends_from n ((true, why) ∷ ws) ≡ true) where
  tail : ascends_from (number why) ws ≡ true
  tail = (and_parts (ltb n (number why)) (ascends_from (number why) ws) a).1

  fits_here : fits (number why) ((true, why) ∷ ws) ≡ true
  fits_here = rw (eq-eqb (number why) (number why) refl)

  not_below : (m : ℕ) → m < number why → fits m ((true, why) ∷ ws) ≡ false
  not_below m l =
      or_from (eqb (number why) m && true) (fits m ws) (and_left (eqb (number why) m) true (ne_eqb (number why) m (λ e. omega arith))) (above (number why) ws tail m (omega arith))

  one_here : (x : Refusal) → fits (number x) ((true, why) ∷ ws) ≡ true → ((m : ℕ) → m < number x → fits m ((true, why) ∷ ws) ≡ false) → why ≡ x
  one_here x f g =
      elim (cases_order (number why) (number x)) [
        | inl e ↦ same_refusal why x e
        | inr o ↦ elim o [
          | inl l ↦ absurd (both_ways (fits (number why) ((true, why) ∷ ws)) (g (number why) l) fits_here)
          | inr l ↦ absurd (both_ways (fits (number x) ((true, why) ∷ ws)) (not_below (number x) l) f)
        ]
      ]

-- a condition that does not hold is passed over
fits_past : (m : ℕ) (why : Refusal) (ws : List (Bool × Refusal)) → fits m ((false, why) ∷ ws) ≡ fits m ws
fits_past m why ws = elim (eqb (number why) m) as (λ b. ((b && false) || fits m ws) ≡ fits m ws) [ true ↦ refl | false ↦ refl ]

holds : (n : ℕ) (ws : List (Bool × Refusal)) → ascends_from n ws ≡ true → (x : Refusal) → first_of ws ≡ Some x → fits (number x) ws ≡ true
holds n [] a x e = let z : ◌≡◌ {A = ℕ} 0 1 = cc in absurd (omega arith)
holds n ((true, why) ∷ ws) a x e = let h : why ≡ x = cc in subst (λ y. fits (number y) ((true, why) ∷ ws) ≡ true) h (fits_here n why ws a)
holds n ((false, why) ∷ ws) a x e = fits_past (number x) why ws ∙ holds (number why) ws (and_parts (ltb n (number why)) (ascends_from (number why) ws) a).1 x e

no_smaller : (n : ℕ) (ws : List (Bool × Refusal)) → ascends_from n ws ≡ true → (x : Refusal) → first_of ws ≡ Some x → (m : ℕ) → m < number x → fits m ws ≡ false
no_smaller n [] a x e m l = refl
no_smaller n ((true, why) ∷ ws) a x e m l = let h : why ≡ x = cc in not_below n why ws a m (let q = ap number h in omega arith)
no_smaller n ((false, why) ∷ ws) a x e m l = fits_past m why ws ∙ no_smaller (number why) ws (and_parts (ltb n (number why)) (ascends_from (number why) ws) a).1 x e m l

given : (n : ℕ) (ws : List (Bool × Refusal)) → ascends_from n ws ≡ true → (x : Refusal) → fits (number x) ws ≡ true → ((m : ℕ) → m < number x → fits m ws ≡ false) → first_of ws ≡ Some x
given n [] a x f g = absurd (both_ways false refl f)
given n ((true, why) ∷ ws) a x f g = ap Some (one_here n why ws a x f g)
given n ((false, why) ∷ ws) a x f g =
    given (number why) ws (and_parts (ltb n (number why)) (ascends_from (number why) ws) a).1 x (sym (fits_past (number x) why ws) ∙ f) (λ m l. sym (fits_past m why ws) ∙ g m l)

none_holds : (ws : List (Bool × Refusal)) → first_of ws ≡ None → (m : ℕ) → fits m ws ≡ false
none_holds [] e m = refl
none_holds ((true, why) ∷ ws) e m = let z : ◌≡◌ {A = ℕ} 0 1 = cc in absurd (omega arith)
none_holds ((false, why) ∷ ws) e m = fits_past m why ws ∙ none_holds ws e m

none_given : (ws : List (Bool × Refusal)) → ((m : ℕ) → fits m ws ≡ false) → first_of ws ≡ None
none_given [] g = refl
none_given ((true, why) ∷ ws) g = absurd (both_ways (fits (number why) ((true, why) ∷ ws)) (g (number why)) (rw (eq-eqb (number why) (number why) refl)))
none_given ((false, why) ∷ ws) g = none_given ws (λ m. sym (fits_past m why ws) ∙ g m)

pub smallest : (ws : List (Bool × Refusal)) → ascends ws ≡ true → Smallest ws
smallest ws a = record { holds = holds 0 ws a; no_smaller = no_smaller 0 ws a; given = given 0 ws a; none_holds = none_holds ws; none_given = none_given ws }

pub first_append : (ps qs : List (Bool × Refusal)) → first_of (ps ++ qs) ≡ or_else (first_of ps) (first_of qs)
first_append [] qs = refl
first_append ((true, why) ∷ ps) qs = refl
first_append ((false, why) ∷ ps) qs = first_append ps qs

module _ {A : Type 0} (k : Kind A) (p : Splits) (room : Room) (rule : List (Shown A) → Shown A → Option Refusal) where
  ascending : (s : State A) (c : Call A) → ascends (refusals k p room s c) ≡ true
  ascending s (Alter (FromText t a seqno)) = refl
  ascending s (Alter (SetCell x c seqno)) = refl
  ascending s (Alter (InsertCell x c margin seqno)) = refl
  ascending s (Alter (EraseCell x seqno)) = refl
  ascending s (Alter (RemoveCell x seqno)) = refl
  ascending s (Alter (PruneTrailingBlanks seqno)) = refl
  ascending s (Alter (Resize width seqno)) = refl
  ascending s (Alter (SetLastCellWasWrapped on seqno)) = refl
  ascending s (Alter Clear) = refl
  ascending s (Alter DropLast) = refl
  ascending s (Alter (Take c)) = refl
  ascending s (AppendLine other seqno) = refl
  ascending s (SplitOff second idx seqno) = refl
  ascending s (Ask question) = asked question
    where
      asked : (q : Question A) → ascends (ask_refusals k s q) ≡ true
      asked Length = refl
      asked Number = refl
      asked Capacity = refl
      asked (NthCell n) = refl
      asked (ColumnsAsStr start end size) = refl
      asked (ComputeZones size) = refl
      asked (Equals other) = refl
      asked (Wrap second at width seqno) = refl
  ascending s Compact = refl
  ascending s Expand = refl

  -- a call that changes nothing at or past the end is not refused there either
  stays_none : (b : Bool) (e f : Edit A) → e.refusal ≡ None → f.refusal ≡ None → (cond b e f).refusal ≡ None
  stays_none true e f h g = h
  stays_none false e f h g = g

  says : (s : State A) (c : Call A) → packs c ≡ false → refusal k p room rule s c ≡ first_of (refusals k p room s c)
  says s (Alter (FromText t a seqno)) e = refl
  says s (Alter (SetCell x c seqno)) e = refl
  says s (Alter (InsertCell x c margin seqno)) e = refl
  says s (Alter (EraseCell x seqno)) e = stays_none (ltb x (length (spread s.cells))) _ _ refl refl
  says s (Alter (RemoveCell x seqno)) e = stays_none (ltb x (length (spread s.cells))) _ _ refl refl
  says s (Alter (PruneTrailingBlanks seqno)) e = refl
  says s (Alter (Resize width seqno)) e = refl
  says s (Alter (SetLastCellWasWrapped on seqno)) e = refl
  says s (Alter Clear) e = refl
  says s (Alter DropLast) e = refl
  says s (Alter (Take c)) e = sym (first_append (cell_refusals p c) (grid_refusals room s.cells c))
  says s (AppendLine other seqno) e = refl
  says s (SplitOff second idx seqno) e = refl
  says s (Ask question) e = refl
  says s Compact e = absurd (both_ways true e refl)
  says s Expand e = refl

  kept : (e : Edit A) (s : State A) (why : Refusal) → e.refusal ≡ Some why → left e s ≡ s
  kept e s why h = rw h

  unchanged : (s : State A) (c : Call A) (why : Refusal) → refusal k p room rule s c ≡ Some why → step k p room s c ≡ s
  unchanged s (Alter c) why e = kept (edit k p room s (Alter c)) s why e
  unchanged s (AppendLine other seqno) why e = kept (edit k p room s (AppendLine other seqno)) s why e
  unchanged s (SplitOff second idx seqno) why e = kept (edit k p room s (SplitOff second idx seqno)) s why e
  unchanged s (Ask question) why e = refl
  unchanged s Compact why e = refl
  unchanged s Expand why e = refl

  pub choosing : Choosing k p room rule
  choosing = record {
    smallest = smallest;
    ascending = ascending;
    words = λ t width. refl;
    graphemes = λ t given. refl;
    says = says;
    refused = λ s c why e. ap (λ o. settled o (accepted k p room s c)) e;
    unchanged = unchanged;
  }
