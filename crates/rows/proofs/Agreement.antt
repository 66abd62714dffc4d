-- Calls said of shown cells, and said of columns.
use Rattle.std.proofs.Common.{◌≡◌, ℕ, zero, suc, ◌-◌, ◌≤◌, min, Bool, false, List, [], ◌∷◌, ◌++◌, map, length, take, drop, replicate, None, sym, refl, ap, ◌∙◌, inl, inr, append-nil, arith}
use Rattle.std.specs.List.{AllByRecursion}
use Rattle.std.proofs.ByRecursion.{All-take}
use Rattle.std.proofs.lemmas.List.{length-take, take_all, take-append-drop}
use Rattle.std.proofs.lemmas.Bool.{cases_Bool, both_ways, not-true}
use Rattle.cells.specs.Cells.{Shown, blank_with, plain_blank, is_plain}
use Rattle.cells.specs.Kinds.{Kind}
use Rattle.cells.specs.Refusals.{first_of}
use Rattle.rows.specs.Lists.{span}
use Rattle.rows.specs.Trims.{up_to_last, not_plain}
use Rattle.rows.specs.Spread.{wide, columns_of, spread}
use Rattle.rows.specs.Columns.{shown, inside, padded}
use Rattle.rows.specs.Rows.{State, Room, left}
use Rattle.rows.specs.Lasts.{flag_cell, on_last}
use Rattle.rows.specs.Edits.{resize_refusals, split_refusals, split_first}
use Rattle.rows.specs.Bounds.{Sized}
use Rattle.rows.specs.Agreeing.{Agreeing}
use Rattle.rows.proofs.Refusing.{none_fits}
use Rattle.rows.proofs.Spans.{length_spread}
use Rattle.rows.proofs.Plain.{pruned, last_passes}
use Rattle.rows.proofs.Wholes.{whole_spread, whole_take, shown_append, shown_spread, spread_append}

pub on_last_push : {X : Type 0} (f : X → X) (xs : List X) (x : X) → on_last f (xs ++ (x ∷ [])) ≡ xs ++ (f x ∷ [])
on_last_push f [] x = refl
on_last_push f (y ∷ []) x = refl
on_last_push f (y ∷ (z ∷ xs)) x = ap (λ v. y ∷ v) (on_last_push f (z ∷ xs) x)

module _ {A : Type 0} where
  inside_tail : (j : ℕ) (c : Shown A) (xs : List (Shown A)) → inside (suc j) (c ∷ xs) ≡ false → inside j xs ≡ false
  inside_tail zero c xs e = refl
  inside_tail (suc j) c xs e = e

  -- columns cut outside a wide cell are the columns of cells cut
  pub cut_at : (cells : List (Shown A)) (idx : ℕ) → inside idx (spread cells) ≡ false
      → (n : ℕ) × (take idx (spread cells) ≡ spread (take n cells)) × (drop idx (spread cells) ≡ spread (drop n cells))
  cut_at [] zero e = (0, refl, refl)
  cut_at [] (suc idx) e = (0, refl, refl)
  cut_at (c ∷ cs) zero e = (0, refl, refl)
  cut_at (c ∷ cs) (suc zero) e =
      elim (cases_Bool (wide c)) [ inl t ↦ absurd (both_ways (wide c) e t) | inr f ↦ (1, rw f, rw f) ]
  cut_at (c ∷ cs) (suc (suc j)) e =
      elim (cases_Bool (wide c)) [
        | inl t ↦
            let i : inside (suc (suc j)) (c ∷ (blank_with c.attrs ∷ spread cs)) ≡ false = rw t at e in
            let r = cut_at cs j (inside_tail j (blank_with c.attrs) (spread cs) i) in
            (suc r.0, rw t (ap (λ v. c ∷ (blank_with c.attrs ∷ v)) r.1), rw t r.2)
        | inr f ↦
            let i : inside (suc (suc j)) (c ∷ spread cs) ≡ false = rw f at e in
            let r = cut_at cs (suc j) i in
            (suc r.0, rw f (ap (λ v. c ∷ v) r.1), rw f r.2)
      ]

  -- the same of the cells that the two parts show
  pub cut_shown : (cells : List (Shown A)) (idx : ℕ) → inside idx (spread cells) ≡ false → AllByRecursion Sized cells
      → (n : ℕ) × (shown (take idx (spread cells)) ≡ take n cells) × (shown (drop idx (spread cells)) ≡ drop n cells) × (span (take n cells) ≡ min idx (span cells))
  cut_shown cells idx e h =
      let r = cut_at cells idx e in
      let l = length_spread (take r.0 cells) (All-take Sized r.0 cells h) in
      let m : length (take idx (spread cells)) ≡ length (spread (take r.0 cells)) = ap length r.1 in
      let q = length-take idx (spread cells) in
      let w = length_spread cells h in
      (r.0, ap shown r.1 ∙ shown_spread (take r.0 cells), ap shown r.2 ∙ shown_spread (drop r.0 cells), omega arith)

  spread_blanks : (n : ℕ) (a : A) → spread (replicate n (blank_with a)) ≡ replicate n (blank_with a)
  spread_blanks zero a = refl
  spread_blanks (suc n) a = ap (λ v. blank_with a ∷ v) (spread_blanks n a)

  shown_blanks : (n : ℕ) (a : A) → shown (replicate n (blank_with a)) ≡ replicate n (blank_with a)
  shown_blanks zero a = refl
  shown_blanks (suc n) a = ap (λ v. blank_with a ∷ v) (shown_blanks n a)

  columns_flagged : (k : Kind A) (on : Bool) (c : Shown A) → columns_of (flag_cell k on c) ≡ map (flag_cell k on) (columns_of c)
  columns_flagged k on c = elim (cases_Bool (wide c)) [ inl t ↦ rw t | inr f ↦ rw f ]

  joins : (cells more : List (Shown A)) → shown (spread cells ++ spread more) ≡ cells ++ more
  joins cells more = ap shown (sym (spread_append cells more)) ∙ shown_spread (cells ++ more)

module _ {A : Type 0} (k : Kind A) (room : Room) where
  prunes : (cells : List (Shown A)) → AllByRecursion Sized cells → (n : ℕ)
      × (cells ≡ up_to_last (not_plain k) cells ++ replicate n (plain_blank k))
      × (spread cells ≡ spread (up_to_last (not_plain k) cells) ++ replicate n (plain_blank k))
  prunes cells h =
      let r = pruned k cells h in
      let kept = up_to_last (not_plain k) cells in (
        r.0,
        r.1,
        ap spread r.1 ∙ spread_append kept (replicate r.0 (plain_blank k)) ∙ ap (λ v. spread kept ++ v) (spread_blanks r.0 k.blank),
      )

  flags : (cells : List (Shown A)) (c : Shown A) (on : Bool)
      → spread (on_last (flag_cell k on) (cells ++ (c ∷ []))) ≡ spread cells ++ map (flag_cell k on) (columns_of c)
  flags cells c on =
      ap spread (on_last_push (flag_cell k on) cells c)
      ∙ spread_append cells (flag_cell k on c ∷ [])
      ∙ ap (λ v. spread cells ++ v) (append-nil (columns_of (flag_cell k on c)) ∙ columns_flagged k on c)

  widens : (cells : List (Shown A)) (width : ℕ) → AllByRecursion Sized cells → span cells ≤ width
      → shown (padded k width (take width (spread cells))) ≡ cells ++ replicate (width - span cells) (plain_blank k)
  widens cells width h l =
      let w = length_spread cells h in
      let t : take width (spread cells) ≡ spread cells = take_all width (spread cells) (omega arith) in
      ap (λ v. shown (padded k width v)) t
      ∙ shown_append (spread cells) (replicate (width - length (spread cells)) (plain_blank k)) (whole_spread cells)
      ∙ ap (λ v. v ++ shown (replicate (width - length (spread cells)) (plain_blank k))) (shown_spread cells)
      ∙ ap (λ v. cells ++ v) (shown_blanks (width - length (spread cells)) k.blank)
      ∙ ap (λ n. cells ++ replicate (width - n) (plain_blank k)) w

  full : (n m : ℕ) (xs : List (Shown A)) → m ≡ 0 → xs ++ replicate m (plain_blank k) ≡ xs
  full n m xs e = ap (λ v. xs ++ replicate v (plain_blank k)) e ∙ append-nil xs

  narrows : (cells : List (Shown A)) (width : ℕ) → AllByRecursion Sized cells → width ≤ span cells → inside width (spread cells) ≡ false
      → (n : ℕ) × (shown (padded k width (take width (spread cells))) ≡ take n cells) × (span (take n cells) ≡ width)
  narrows cells width h l e =
      let r = cut_shown cells width e h in
      let w = length_spread cells h in
      let q = length-take width (spread cells) in
      let z : width - length (take width (spread cells)) ≡ 0 = omega arith in
      let f = r.3 in
      (r.0, ap shown (full width (width - length (take width (spread cells))) (take width (spread cells)) z) ∙ r.1, omega arith)

  rejoins : (cells : List (Shown A)) (idx : ℕ) → inside idx (spread cells) ≡ false → shown (take idx (spread cells)) ++ shown (drop idx (spread cells)) ≡ cells
  rejoins cells idx e =
      sym (shown_append (take idx (spread cells)) (drop idx (spread cells)) (whole_take idx (spread cells) e (whole_spread cells)))
      ∙ ap shown (take-append-drop idx (spread cells)) ∙ shown_spread cells

  -- a row split, unless refused, is its first part
  first_part : (s : State A) (idx : ℕ) → first_of (split_refusals room idx (spread s.cells)) ≡ None → (left (split_first room idx s) s).cells ≡ shown (take idx (spread s.cells))
  first_part s idx e = rw e

  pub agreeing : Agreeing k room
  agreeing = record {
    joins = joins;
    prunes = prunes;
    prunes_all = λ cells c e. not-true (is_plain k c) (last_passes (not_plain k) cells c e);
    flags = flags;
    widens = λ s width seqno h l. widens s.cells width h l;
    narrows = λ s width seqno h l e. narrows s.cells width h l (none_fits (resize_refusals room width (spread s.cells)) e).1.0;
    splits = λ s idx seqno h e. cut_shown s.cells idx (none_fits (split_refusals room idx (spread s.cells)) e).0 h;
    rejoins = λ s idx seqno e.
        ap (λ v. v ++ shown (drop idx (spread s.cells))) (first_part s idx e) ∙ rejoins s.cells idx (none_fits (split_refusals room idx (spread s.cells)) e).0;
  }
