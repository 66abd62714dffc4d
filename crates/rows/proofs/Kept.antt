-- What holds of the cells that a call finds and brings, of every blank, and whatever the flag is, holds of the cells that it leaves.
use Rattle.std.proofs.Common.{◌≡◌, ℕ, zero, suc, ◌+◌, ◌-◌, Bool, true, false, cond, ◌&&◌, ltb, leb, ◌⊎◌, List, [], ◌∷◌, ◌++◌, length, get_or, take, drop, replicate, Some, None, Option, refl, inl, inr}
use Rattle.std.specs.List.{AllByRecursion}
use Rattle.std.proofs.ByRecursion.{All-append, All-take, All-drop}
use Rattle.cells.specs.Cells.{Shown, blank_with, plain_blank, is_plain}
use Rattle.cells.specs.Kinds.{Kind}
use Rattle.cells.specs.declared.refusal.Refusal.{Refusal}
use Rattle.splitters.specs.Splits.{Splits}
use Rattle.rows.specs.Spread.{wide, columns_of, spread}
use Rattle.rows.specs.Columns.{reads, shown, blank_at, blanked, padded, without, over, between}
use Rattle.rows.specs.Rows.{State, Room, stays, unless}
use Rattle.rows.specs.Trims.{any, up_to_last, not_plain, no_space}
use Rattle.rows.specs.Givens.{cells_of}
use Rattle.rows.specs.Lasts.{flag_cell, on_last}
use Rattle.rows.specs.Edits.{becomes, set_columns, made_room, some_cell}
use Rattle.rows.specs.Wraps.{Cut, cut_up, rows_of, flag_ends, trimmed, wrapped}
use Rattle.rows.specs.Packing.{without_last}
use Rattle.rows.specs.Calls.{FromText, SetCell, InsertCell, EraseCell, RemoveCell, PruneTrailingBlanks, Resize, SetLastCellWasWrapped, Clear, DropLast, Take, Call, Alter, AppendLine, SplitOff, Ask, Compact, Expand, edit}

-- the cells that a call brings into a row
abbrev pub brings : {A : Type 0} → Splits → Call A → List (Shown A)
brings p (Alter (FromText t a seqno)) = cells_of p a t
brings p (Alter (SetCell x c seqno)) = c ∷ []
brings p (Alter (InsertCell x c margin seqno)) = c ∷ []
brings p (Alter (EraseCell x seqno)) = []
brings p (Alter (RemoveCell x seqno)) = []
brings p (Alter (PruneTrailingBlanks seqno)) = []
brings p (Alter (Resize width seqno)) = []
brings p (Alter (SetLastCellWasWrapped on seqno)) = []
brings p (Alter Clear) = []
brings p (Alter DropLast) = []
brings p (Alter (Take c)) = c ∷ []
brings p (AppendLine other seqno) = other.cells
brings p (SplitOff second idx seqno) = []
brings p (Ask question) = []
brings p Compact = []
brings p Expand = []

module _ {A : Type 0} (P : Shown A → Type 0) (blank : (a : A) → P (blank_with a)) where
  all_columns : (c : Shown A) → P c → AllByRecursion P (columns_of c)
  all_columns c h = elim (cases (wide c)) [ inl e ↦ rw e (h, (blank c.attrs, tt)) | inr e ↦ rw e (h, tt) ]
    where
      cases : (b : Bool) → (b ≡ true) ⊎ (b ≡ false)
      cases true = inl refl
      cases false = inr refl

  pub all_spread : (cells : List (Shown A)) → AllByRecursion P cells → AllByRecursion P (spread cells)
  all_spread [] h = tt
  all_spread (c ∷ cs) h = All-append P (columns_of c) (spread cs) (all_columns c h.0) (all_spread cs h.1)

  all_reads : (b : Bool) (cols : List (Shown A)) → AllByRecursion P cols → AllByRecursion P (reads b cols)
  all_reads b [] h = tt
  all_reads true (c ∷ cs) h = all_reads false cs h.1
  all_reads false (c ∷ cs) h = (h.0, all_reads (wide c) cs h.1)

  pub all_shown : (cols : List (Shown A)) → AllByRecursion P cols → AllByRecursion P (shown cols)
  all_shown cols h = all_reads false cols h

  all_blank_one : (b : Bool) (c : Shown A) → P c → P (cond b (blank_with c.attrs) c)
  all_blank_one true c h = blank c.attrs
  all_blank_one false c h = h

  all_blank_at : (n : ℕ) (cols : List (Shown A)) → AllByRecursion P cols → AllByRecursion P (blank_at n cols)
  all_blank_at n [] h = tt
  all_blank_at zero (c ∷ cs) h = (all_blank_one (wide c) c h.0, h.1)
  all_blank_at (suc n) (c ∷ cs) h = (h.0, all_blank_at n cs h.1)

  all_blanked : (x : ℕ) (cols : List (Shown A)) → AllByRecursion P cols → AllByRecursion P (blanked x cols)
  all_blanked zero cols h = h
  all_blanked (suc x) cols h = all_blank_at x cols h

  all_blanks : (n : ℕ) (a : A) → AllByRecursion P (replicate n (blank_with a))
  all_blanks zero a = tt
  all_blanks (suc n) a = (blank a, all_blanks n a)

  all_padded : (k : Kind A) (n : ℕ) (cols : List (Shown A)) → AllByRecursion P cols → AllByRecursion P (padded k n cols)
  all_padded k n cols h = All-append P cols (replicate (n - length cols) (plain_blank k)) h (all_blanks (n - length cols) k.blank)

  all_without : (x : ℕ) (cols : List (Shown A)) → AllByRecursion P cols → AllByRecursion P (without x cols)
  all_without x cols h = All-append P (take x cols) (drop (x + 1) cols) (All-take P x cols h) (All-drop P (x + 1) cols h)

  all_over : (x : ℕ) (c : Shown A) (cols : List (Shown A)) → P c → AllByRecursion P cols → AllByRecursion P (over x c cols)
  all_over x c cols h hs =
      All-append P (take x cols) (columns_of c ++ drop (x + c.width) cols) (All-take P x cols hs)
      (All-append P (columns_of c) (drop (x + c.width) cols) (all_columns c h) (All-drop P (x + c.width) cols hs))

  all_between : (x : ℕ) (c : Shown A) (cols : List (Shown A)) → P c → AllByRecursion P cols → AllByRecursion P (between x c cols)
  all_between x c cols h hs =
      All-append P (take x cols) (columns_of c ++ drop x cols) (All-take P x cols hs)
      (All-append P (columns_of c) (drop x cols) (all_columns c h) (All-drop P x cols hs))

  all_set : (k : Kind A) (x : ℕ) (c : Shown A) (cols : List (Shown A)) → P c → AllByRecursion P cols → AllByRecursion P (set_columns k x c cols)
  all_set k x c cols h hs =
      elim (ltb (length cols) x && is_plain k c) as (λ b. AllByRecursion P (cond b cols (over x c (blanked x (padded k x cols)))))
      [ true ↦ hs | false ↦ all_over x c (blanked x (padded k x cols)) h (all_blanked x (padded k x cols) (all_padded k x cols hs)) ]

  all_room : (k : Kind A) (x margin : ℕ) (cols : List (Shown A)) → AllByRecursion P cols → AllByRecursion P (made_room k x margin cols)
  all_room k x margin cols hs =
      elim (leb margin (length cols)) as (λ b. AllByRecursion P (padded k x (cond b (without (margin - 1) cols) cols)))
      [ true ↦ all_padded k x (without (margin - 1) cols) (all_without (margin - 1) cols hs) | false ↦ all_padded k x cols hs ]

  all_some_cell : (k : Kind A) (cells : List (Shown A)) → AllByRecursion P cells → AllByRecursion P (some_cell k cells)
  all_some_cell k [] h = (blank k.blank, tt)
  all_some_cell k (c ∷ cs) h = h

module _ {X : Type 0} (P : X → Type 0) where
  all_up_to_last : (test : X → Bool) (xs : List X) → AllByRecursion P xs → AllByRecursion P (up_to_last test xs)
  all_up_to_last test [] h = tt
  all_up_to_last test (x ∷ xs) h =
      elim (any test (x ∷ xs)) as (λ b. AllByRecursion P (cond b (x ∷ up_to_last test xs) []))
      [ true ↦ (h.0, all_up_to_last test xs h.1) | false ↦ tt ]

  all_on_last : (f : X → X) → ((x : X) → P x → P (f x)) → (xs : List X) → AllByRecursion P xs → AllByRecursion P (on_last f xs)
  all_on_last f g [] h = tt
  all_on_last f g (x ∷ []) h = (g x h.0, tt)
  all_on_last f g (x ∷ (y ∷ ys)) h = (h.0, all_on_last f g (y ∷ ys) h.1)

  all_without_last : (xs : List X) → AllByRecursion P xs → AllByRecursion P (without_last xs)
  all_without_last [] h = tt
  all_without_last (x ∷ []) h = tt
  all_without_last (x ∷ (y ∷ ys)) h = (h.0, all_without_last (y ∷ ys) h.1)

  pub all_unless : (why : Option Refusal) (before after : List X) → AllByRecursion P before → (why ≡ None → AllByRecursion P after) → AllByRecursion P (unless why before after)
  all_unless (Some why) before after h g = h
  all_unless None before after h g = g refl

module _ {A : Type 0} (k : Kind A) (P : Shown A → Type 0) (blank : (a : A) → P (blank_with a)) (flag : (on : Bool) (c : Shown A) → P c → P (flag_cell k on c)) where
  pub all_edit : (p : Splits) (room : Room) (s : State A) (c : Call A) → AllByRecursion P (brings p c) → AllByRecursion P s.cells → AllByRecursion P (edit k p room s c).cells
  all_edit p room s (Alter (FromText t a seqno)) b h = b
  all_edit p room s (Alter (SetCell x c seqno)) b h = all_shown P blank (set_columns k x c (spread s.cells)) (all_set P blank k x c (spread s.cells) b.0 (all_spread P blank s.cells h))
  all_edit p room s (Alter (InsertCell x c margin seqno)) b h =
      all_shown P blank (between x c (made_room k x margin (spread s.cells)))
      (all_between P blank x c (made_room k x margin (spread s.cells)) b.0 (all_room P blank k x margin (spread s.cells) (all_spread P blank s.cells h)))
  all_edit p room s (Alter (EraseCell x seqno)) b h =
      let cols = spread s.cells in
      elim (ltb x (length cols)) as (λ t. AllByRecursion P (cond t (becomes [] (without x (blanked x cols) ++ (plain_blank k ∷ [])) seqno s) (stays s)).cells) [
        | true ↦ all_shown P blank (without x (blanked x cols) ++ (plain_blank k ∷ []))
            (All-append P (without x (blanked x cols)) (plain_blank k ∷ []) (all_without P blank x (blanked x cols) (all_blanked P blank x cols (all_spread P blank s.cells h))) (blank k.blank, tt))
        | false ↦ h
      ]
  all_edit p room s (Alter (RemoveCell x seqno)) b h =
      let cols = spread s.cells in
      elim (ltb x (length cols)) as (λ t. AllByRecursion P (cond t (becomes [] (without x (blanked x cols)) seqno s) (stays s)).cells) [
        | true ↦ all_shown P blank (without x (blanked x cols)) (all_without P blank x (blanked x cols) (all_blanked P blank x cols (all_spread P blank s.cells h)))
        | false ↦ h
      ]
  all_edit p room s (Alter (PruneTrailingBlanks seqno)) b h = all_up_to_last P (not_plain k) s.cells h
  all_edit p room s (Alter (Resize width seqno)) b h =
      all_shown P blank (padded k width (take width (spread s.cells))) (all_padded P blank k width (take width (spread s.cells)) (All-take P width (spread s.cells) (all_spread P blank s.cells h)))
  all_edit p room s (Alter (SetLastCellWasWrapped on seqno)) b h = all_on_last P (flag_cell k on) (flag on) (some_cell k s.cells) (all_some_cell P blank k s.cells h)
  all_edit p room s (Alter Clear) b h = tt
  all_edit p room s (Alter DropLast) b h = all_without_last P s.cells h
  all_edit p room s (Alter (Take c)) b h = All-append P s.cells (c ∷ []) h b
  all_edit p room s (AppendLine other seqno) b h = All-append P s.cells other.cells h b
  all_edit p room s (SplitOff second idx seqno) b h = all_shown P blank (take idx (spread s.cells)) (All-take P idx (spread s.cells) (all_spread P blank s.cells h))
  all_edit p room s (Ask question) b h = h
  all_edit p room s Compact b h = h
  all_edit p room s Expand b h = h

  pub all_second : (idx : ℕ) (cells : List (Shown A)) → AllByRecursion P cells → AllByRecursion P (shown (drop idx (spread cells)))
  all_second idx cells h = all_shown P blank (drop idx (spread cells)) (All-drop P idx (spread cells) (all_spread P blank cells h))

  all_flag_ends : (rows : List (List (Shown A))) → AllByRecursion (AllByRecursion P) rows → AllByRecursion (AllByRecursion P) (flag_ends k rows)
  all_flag_ends [] h = tt
  all_flag_ends (row ∷ []) h = h
  all_flag_ends (row ∷ (next ∷ rows)) h = (all_on_last P (flag_cell k true) (flag true) row h.0, all_flag_ends (next ∷ rows) h.1)

  all_cut_up : (cut : Cut A) (width fuel : ℕ) (cs : List (Shown A)) → AllByRecursion P cs → AllByRecursion (AllByRecursion P) (cut_up cut width fuel cs)
  all_cut_up cut width zero cs h = tt
  all_cut_up cut width (suc fuel) [] h = tt
  all_cut_up cut width (suc fuel) (c ∷ cs) h =
      let n = cut width (c ∷ cs) in
      (All-take P n (c ∷ cs) h, all_cut_up cut width fuel (drop n (c ∷ cs)) (All-drop P n (c ∷ cs) h))

  all_wrapped : (cut : Cut A) (width : ℕ) (cs : List (Shown A)) → AllByRecursion P cs → AllByRecursion (AllByRecursion P) (wrapped cut k width cs)
  all_wrapped cut width cs h =
      elim (any no_space cs) as (λ b. AllByRecursion (AllByRecursion P) (cond b (flag_ends k (rows_of cut width (trimmed cs))) (cs ∷ []))) [
        | true ↦ all_flag_ends (rows_of cut width (trimmed cs)) (all_cut_up cut width (length (trimmed cs)) (trimmed cs) (all_up_to_last P no_space cs h))
        | false ↦ (h, tt)
      ]

  all_row : (rows : List (List (Shown A))) (at : ℕ) → AllByRecursion (AllByRecursion P) rows → AllByRecursion P (get_or rows at [])
  all_row [] at h = tt
  all_row (row ∷ rows) zero h = h.0
  all_row (row ∷ rows) (suc at) h = all_row rows at h.1

  pub all_wrap : (cut : Cut A) (width at : ℕ) (cs : List (Shown A)) → AllByRecursion P cs → AllByRecursion P (get_or (wrapped cut k width cs) at [])
  all_wrap cut width at cs h = all_row (wrapped cut k width cs) at (all_wrapped cut width cs h)
