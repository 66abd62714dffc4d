-- Every edit keeps columns whole and within the capacity.
use Rattle.std.proofs.Common.{◌≡◌, ℕ, zero, suc, ◌+◌, ◌-◌, ◌≤◌, min, Bool, true, false, cond, ◌&&◌, ltb, List, [], ◌∷◌, ◌++◌, map, length, take, drop, replicate, Some, None, Option, refl, ap, ◌∙◌, inl, inr, arith}
use Rattle.std.specs.List.{AllByRecursion}
use Rattle.std.proofs.lemmas.List.{length-append, length-take, length-drop, length-replicate}
use Rattle.std.proofs.lemmas.Bool.{cases_Bool, ltb-true, ltb-false}
use Rattle.cells.specs.Cells.{Shown, plain_blank, is_plain}
use Rattle.cells.specs.Cleaning.{clean}
use Rattle.cells.specs.Kinds.{Kind}
use Rattle.cells.specs.Refusals.{first_of}
use Rattle.cells.specs.declared.refusal.Refusal.{Refusal}
use Rattle.cells.specs.Words.{is_space}
use Rattle.splitters.specs.Splits.{Splits, columns}
use Rattle.splitters.specs.declared.width.Width.{Width}
use Rattle.splitters.specs.declared.width.Width.TheVariants.{Narrow, Wide}
use Rattle.splitters.specs.Pieces.{pieces}
use Rattle.rows.specs.Lists.{span}
use Rattle.rows.specs.Spread.{columns_of, spread}
use Rattle.rows.specs.Columns.{shown, Whole, blank_at, blanked, padded, without, over, between}
use Rattle.rows.specs.Rows.{State, Room, unless}
use Rattle.rows.specs.Trims.{any, up_to_last, not_plain}
use Rattle.rows.specs.Givens.{cell_refusals, cell_of, cells_of}
use Rattle.rows.specs.Lasts.{flag_cell, on_last}
use Rattle.rows.specs.Edits.{set_columns, made_room, some_cell, text_refusals, set_refusals, insert_refusals, resize_refusals, flag_refusals, append_refusals, split_refusals}
use Rattle.rows.specs.Wraps.{greedy, wrapped, wrap_refusals, wrap}
use Rattle.rows.specs.Packing.{without_last, or_else, grid_refusals, grid_rule}
use Rattle.rows.specs.Calls.{FromText, SetCell, InsertCell, EraseCell, RemoveCell, PruneTrailingBlanks, Resize, SetLastCellWasWrapped, Clear, DropLast, Take, Call, Alter, AppendLine, SplitOff, Ask, Compact, Expand, edit, step, after, given}
use Rattle.rows.specs.Bounds.{Sized, Bounded, StaysWhole, StaysWithin}
use Rattle.rows.proofs.Refusing.{none_fits}
use Rattle.rows.proofs.Plain.{space_is}
use Rattle.rows.proofs.Sizes.{Two, sized}
use Rattle.rows.proofs.Spans.{length_columns, length_spread, span_append, span_shown}
use Rattle.rows.proofs.Kept.{brings, all_edit, all_unless, all_second, all_wrap}
use Rattle.rows.proofs.Wholes.{whole_spread, whole_append, whole_drop, whole_take, whole_blanks, whole_blanked, inside_blanked, whole_without, whole_padded, whole_over, whole_between, whole_room}

module _ {A : Type 0} (k : Kind A) (p : Splits) (room : Room) where
  whole_set : (x : ℕ) (c : Shown A) (cols : List (Shown A)) → Whole cols → Whole (set_columns k x c cols)
  whole_set x c cols w =
      elim (ltb (length cols) x && is_plain k c) as (λ b. Whole (cond b cols (over x c (blanked x (padded k x cols))))) [
        | true ↦ w
        | false ↦ whole_over x c (blanked x (padded k x cols)) (inside_blanked x (padded k x cols)) (whole_blanked x (padded k x cols) (whole_padded k x cols w))
      ]

  whole_removed : (x : ℕ) (cols : List (Shown A)) → Whole cols → Whole (without x (blanked x cols))
  whole_removed x cols w = whole_without x (blanked x cols) (inside_blanked x cols) (whole_blanked x cols w)

  pub stays_whole : (cols : List (Shown A)) → Whole cols → StaysWhole k p room cols
  stays_whole cols w = record {
    set = λ x c. whole_set x c cols w;
    insert = λ x margin c e.
        let h = whole_room k x margin cols w (none_fits (insert_refusals k p room x c margin cols) e).1.1.1.1.0 in
        whole_between x c (made_room k x margin cols) h.1 h.0;
    remove = λ x. whole_removed x cols w;
    erase = λ x. whole_append (without x (blanked x cols)) (plain_blank k ∷ []) (whole_removed x cols w) (whole_blanks 1 k.blank);
    resize = λ width e. whole_padded k width (take width cols) (whole_take width cols (none_fits (resize_refusals room width cols) e).1.0 w);
    append = λ more v. whole_append cols more w v;
    split_first = λ idx e. whole_take idx cols (none_fits (split_refusals room idx cols) e).0 w;
    split_second = λ idx. whole_drop idx cols w;
  }

module _ {A : Type 0} where
  pub length_blanked : (x : ℕ) (cols : List (Shown A)) → length (blanked x cols) ≡ length cols
  length_blanked zero cols = refl
  length_blanked (suc x) cols = go x cols
    where
      go : (n : ℕ) (xs : List (Shown A)) → length (blank_at n xs) ≡ length xs
      go n [] = refl
      go zero (c ∷ cs) = refl
      go (suc n) (c ∷ cs) = ap suc (go n cs)

  pub length_padded : (k : Kind A) (n : ℕ) (cols : List (Shown A)) → length (padded k n cols) ≡ length cols + (n - length cols)
  length_padded k n cols = length-append cols (replicate (n - length cols) (plain_blank k)) ∙ ap (λ m. length cols + m) (length-replicate (n - length cols) (plain_blank k))

  pub length_without : (x : ℕ) (cols : List (Shown A)) → length (without x cols) ≡ min x (length cols) + (length cols - (x + 1))
  length_without x cols = simp (length-append, length-take, length-drop)

  pub length_over : (x : ℕ) (c : Shown A) (cols : List (Shown A)) → Sized c → length (over x c cols) ≡ min x (length cols) + (c.width + (length cols - (x + c.width)))
  length_over x c cols h =
      length-append (take x cols) (columns_of c ++ drop (x + c.width) cols)
      ∙ (let a = length-take x cols in let b = length-append (columns_of c) (drop (x + c.width) cols) in let d = length_columns c h in let e = length-drop (x + c.width) cols in omega arith)

  pub length_between : (x : ℕ) (c : Shown A) (cols : List (Shown A)) → Sized c → length (between x c cols) ≡ length cols + c.width
  length_between x c cols h =
      length-append (take x cols) (columns_of c ++ drop x cols)
      ∙ (let a = length-take x cols in let b = length-append (columns_of c) (drop x cols) in let d = length_columns c h in let e = length-drop x cols in omega arith)

  span_up_to_last : (test : Shown A → Bool) (cells : List (Shown A)) → span (up_to_last test cells) ≤ span cells
  span_up_to_last test [] = omega arith
  span_up_to_last test (c ∷ cs) =
      let h = span_up_to_last test cs in
      elim (any test (c ∷ cs)) as (λ b. span (cond b (c ∷ up_to_last test cs) []) ≤ c.width + span cs) [ true ↦ omega arith | false ↦ omega arith ]

  pub span_on_last : (f : Shown A → Shown A) → ((c : Shown A) → (f c).width ≡ c.width) → (cells : List (Shown A)) → span (on_last f cells) ≡ span cells
  span_on_last f g [] = refl
  span_on_last f g (c ∷ []) = ap (λ n. n + 0) (g c)
  span_on_last f g (c ∷ (d ∷ cs)) = ap (λ n. c.width + n) (span_on_last f g (d ∷ cs))

  span_without_last : (cells : List (Shown A)) → span (without_last cells) ≤ span cells
  span_without_last [] = omega arith
  span_without_last (c ∷ []) = omega arith
  span_without_last (c ∷ (d ∷ cs)) = let h = span_without_last (d ∷ cs) in omega arith

two_piece : {A : Type 0} (p : Splits) (a : A) (t : List ℕ) (w : Width) → p.width (clean t) ≡ w → Two (record { text = clean t; width = columns w; attrs = a })
two_piece p a t Narrow e = inl refl
two_piece p a t Wide e =
    inr (
      refl,
      elim (cases_Bool (is_space (clean t))) [
        | inl s ↦ let n : p.width (clean t) ≡ Narrow = ap p.width (space_is (clean t) s) ∙ p.narrow in let z : ◌≡◌ {A = ℕ} 0 1 = cc in absurd (omega arith)
        | inr f ↦ f
      ],
    )

sized_texts : {A : Type 0} (p : Splits) (a : A) (ts : List (List ℕ)) → AllByRecursion Sized (map (cell_of p a) ts)
sized_texts p a [] = tt
sized_texts p a (t ∷ ts) = (sized (cell_of p a t) (two_piece p a t (p.width (clean t)) refl), sized_texts p a ts)

or_none : (o r : Option Refusal) → or_else o r ≡ None → r ≡ None
or_none (Some why) r e = let z : ◌≡◌ {A = ℕ} 0 1 = cc in absurd (omega arith)
or_none None r e = e

module _ {A : Type 0} (k : Kind A) (p : Splits) (room : Room) where
  sized_brought : (c : Call A) → AllByRecursion Sized (given c) → AllByRecursion Sized (brings p c)
  sized_brought (Alter (FromText t a seqno)) h = sized_texts p a (pieces p.first t)
  sized_brought (Alter (SetCell x c seqno)) h = h
  sized_brought (Alter (InsertCell x c margin seqno)) h = h
  sized_brought (Alter (EraseCell x seqno)) h = h
  sized_brought (Alter (RemoveCell x seqno)) h = h
  sized_brought (Alter (PruneTrailingBlanks seqno)) h = h
  sized_brought (Alter (Resize width seqno)) h = h
  sized_brought (Alter (SetLastCellWasWrapped on seqno)) h = h
  sized_brought (Alter Clear) h = h
  sized_brought (Alter DropLast) h = h
  sized_brought (Alter (Take c)) h = h
  sized_brought (AppendLine other seqno) h = h
  sized_brought (SplitOff second idx seqno) h = h
  sized_brought (Ask question) h = h
  sized_brought Compact h = h
  sized_brought Expand h = h

  pub sized_edit : (s : State A) (c : Call A) → AllByRecursion Sized (given c) → AllByRecursion Sized s.cells → AllByRecursion Sized (edit k p room s c).cells
  sized_edit s c g h = all_edit k Sized (λ a. refl) (λ on d e. e) p room s c (sized_brought c g) h

  -- whole columns within the capacity show cells within it
  fits : (cols : List (Shown A)) → Whole cols → AllByRecursion Sized (shown cols) → length cols ≤ room.capacity → span (shown cols) ≤ room.capacity
  fits cols w h l = let e = span_shown cols w h in omega arith

  within_set : (x : ℕ) (c : Shown A) (cols : List (Shown A)) → Sized c → length cols ≤ room.capacity → x + c.width ≤ room.capacity → length (set_columns k x c cols) ≤ room.capacity
  within_set x c cols h l m =
      let a = length_over x c (blanked x (padded k x cols)) h in
      let b = length_blanked x (padded k x cols) in
      let d = length_padded k x cols in
      elim (ltb (length cols) x && is_plain k c) as (λ t. length (cond t cols (over x c (blanked x (padded k x cols)))) ≤ room.capacity)
      [ true ↦ l | false ↦ omega arith ]

  pub within_edit : (s : State A) (c : Call A) → AllByRecursion Sized (given c) → AllByRecursion Sized s.cells → span s.cells ≤ room.capacity → (edit k p room s c).refusal ≡ None
      → span (edit k p room s c).cells ≤ room.capacity
  within_edit s (Alter (FromText t a seqno)) g h l e = ltb-false room.capacity (span (cells_of p a t)) (none_fits (text_refusals p room t a) e).1.1.0
  within_edit s (Alter (SetCell x c seqno)) g h l e =
      let cols = spread s.cells in
      fits (set_columns k x c cols) ((stays_whole k p room cols (whole_spread s.cells)).set x c) (sized_edit s (Alter (SetCell x c seqno)) g h)
      (within_set x c cols g.0 (let q = length_spread s.cells h in omega arith) (ltb-false room.capacity (x + c.width) (none_fits (set_refusals p room x c) e).1.1.0))
  within_edit s (Alter (InsertCell x c margin seqno)) g h l e =
      let cols = spread s.cells in
      let m = ltb-false room.capacity (length (made_room k x margin cols) + c.width) (none_fits (insert_refusals k p room x c margin cols) e).1.1.1.0 in
      let q = length_between x c (made_room k x margin cols) g.0 in
      fits (between x c (made_room k x margin cols)) ((stays_whole k p room cols (whole_spread s.cells)).insert x margin c e) (sized_edit s (Alter (InsertCell x c margin seqno)) g h) (omega arith)
  within_edit s (Alter (EraseCell x seqno)) g h l e =
      let cols = spread s.cells in
      let ys = without x (blanked x cols) ++ (plain_blank k ∷ []) in
      let q = length_spread s.cells h in
      let a = length-append (without x (blanked x cols)) (plain_blank k ∷ []) in
      let b = length_without x (blanked x cols) in
      let d = length_blanked x cols in
      let z = sized_edit s (Alter (EraseCell x seqno)) g h in
      elim (cases_Bool (ltb x (length cols))) [
        | inl t ↦
            let v = ltb-true x (length cols) t in
            rw t (fits ys ((stays_whole k p room cols (whole_spread s.cells)).erase x) (rw t at z) (omega arith))
        | inr f ↦ rw f l
      ]
  within_edit s (Alter (RemoveCell x seqno)) g h l e =
      let cols = spread s.cells in
      let ys = without x (blanked x cols) in
      let q = length_spread s.cells h in
      let b = length_without x (blanked x cols) in
      let d = length_blanked x cols in
      let z = sized_edit s (Alter (RemoveCell x seqno)) g h in
      elim (cases_Bool (ltb x (length cols))) [
        | inl t ↦ rw t (fits ys ((stays_whole k p room cols (whole_spread s.cells)).remove x) (rw t at z) (omega arith))
        | inr f ↦ rw f l
      ]
  within_edit s (Alter (PruneTrailingBlanks seqno)) g h l e = let q = span_up_to_last (not_plain k) s.cells in omega arith
  within_edit s (Alter (Resize width seqno)) g h l e =
      let cols = spread s.cells in
      let m = ltb-false room.capacity width (none_fits (resize_refusals room width cols) e).0 in
      let a = length_padded k width (take width cols) in
      let b = length-take width cols in
      fits (padded k width (take width cols)) ((stays_whole k p room cols (whole_spread s.cells)).resize width e) (sized_edit s (Alter (Resize width seqno)) g h) (omega arith)
  within_edit s (Alter (SetLastCellWasWrapped on seqno)) g h l e =
      let q = span_on_last (flag_cell k on) (λ c. refl) (some_cell k s.cells) in
      let m = ltb-false room.capacity (span (some_cell k s.cells)) (none_fits (flag_refusals k room s.cells) e).0 in
      omega arith
  within_edit s (Alter Clear) g h l e = omega arith
  within_edit s (Alter DropLast) g h l e = let q = span_without_last s.cells in omega arith
  within_edit s (Alter (Take c)) g h l e =
      let q = span_append s.cells (c ∷ []) in
      let n = or_none (first_of (cell_refusals p c)) (grid_rule room s.cells c) e in
      let m = ltb-false room.capacity (span s.cells + c.width) (none_fits (grid_refusals room s.cells c) n).0 in
      omega arith
  within_edit s (AppendLine other seqno) g h l e =
      let q = span_append s.cells other.cells in
      let m = ltb-false room.capacity (span s.cells + span other.cells) (none_fits (append_refusals room s.cells other.cells) e).0 in
      omega arith
  within_edit s (SplitOff second idx seqno) g h l e =
      let cols = spread s.cells in
      let q = length_spread s.cells h in
      let b = length-take idx cols in
      fits (take idx cols) ((stays_whole k p second cols (whole_spread s.cells)).split_first idx e) (sized_edit s (SplitOff second idx seqno) g h) (omega arith)
  within_edit s (Ask question) g h l e = l
  within_edit s Compact g h l e = l
  within_edit s Expand g h l e = l

  span_unless : (why : Option Refusal) (xs ys : List (Shown A)) → span xs ≤ room.capacity → (why ≡ None → span ys ≤ room.capacity) → span (unless why xs ys) ≤ room.capacity
  span_unless (Some why) xs ys l g = l
  span_unless None xs ys l g = g refl

  fits_step : (s : State A) (c : Call A) → AllByRecursion Sized (given c) → Bounded room s.cells → Bounded room (step k p room s c).cells
  fits_step s c g f = record {
    sized = all_unless Sized (edit k p room s c).refusal s.cells (edit k p room s c).cells f.sized (λ e. sized_edit s c g f.sized);
    within = span_unless (edit k p room s c).refusal s.cells (edit k p room s c).cells f.within (within_edit s c g f.sized f.within);
  }

  fits_after : (s : State A) (cs : List (Call A)) → AllByRecursion (λ c. AllByRecursion Sized (given c)) cs → Bounded room s.cells → Bounded room (after k p room s cs).cells
  fits_after s [] g f = f
  fits_after s (c ∷ cs) g f = fits_after (step k p room s c) cs g.1 (fits_step s c g.0 f)

  fits_second : (cells : List (Shown A)) (idx : ℕ) → first_of (split_refusals room idx (spread cells)) ≡ None → AllByRecursion Sized cells → Bounded room (shown (drop idx (spread cells)))
  fits_second cells idx e h =
      let z = all_second k Sized (λ a. refl) (λ on d v. v) idx cells h in
      let b = length-drop idx (spread cells) in
      let m = ltb-false room.capacity (length (spread cells) - idx) (none_fits (split_refusals room idx (spread cells)) e).1.0 in
      record { sized = z; within = fits (drop idx (spread cells)) (whole_drop idx (spread cells) (whole_spread cells)) z (omega arith) }

  fits_wrapped : (s : State A) (at width seqno : ℕ) → (wrap greedy k room at width seqno s).refusal ≡ None → AllByRecursion Sized s.cells → Bounded room (wrap greedy k room at width seqno s).cells
  fits_wrapped s at width seqno e h = record {
    sized = all_wrap k Sized (λ a. refl) (λ on d v. v) greedy width at s.cells h;
    within = ltb-false room.capacity (span (wrap greedy k room at width seqno s).cells) (none_fits (wrap_refusals room at (wrapped greedy k width s.cells)) e).1.0;
  }

  pub stays_within : StaysWithin k p room
  stays_within = record { call = fits_step; calls = fits_after; second = λ s idx seqno e h. fits_second s.cells idx e h; wrapped_row = fits_wrapped }
