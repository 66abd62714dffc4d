-- The cell of a piece, and a reader that was opened.
use Rattle.std.proofs.Common.{◌≡◌, ℕ, ◌≤◌, Bool, true, false, cond, not, List, [], ◌∷◌, length, None, Ok, Err, Result, IsOk, sym, refl, ap, ◌∙◌, arith}
use Rattle.std.proofs.lemmas.Bool.{eq-eqb, le-ltb}
use Rattle.cells.specs.declared.refusal.Refusal.{Refusal}
use Rattle.cells.specs.declared.refusal.Refusal.TheVariants.{NotGood}
use Rattle.cells.specs.Refusals.{first_of, verdict, mapped}
use Rattle.cells.specs.Words.{Text, made}
use Rattle.cells.specs.Cleaning.{space, unclean, clean}
use Rattle.splitters.specs.Splits.{Splits}
use Rattle.splitters.specs.Reading.{Alone, opened}
use Rattle.splitters.specs.Graphemes.{cell_width, grapheme}
use Rattle.splitters.proofs.Making.{dressed, made_cell}
use Rattle.rows.specs.Givens.{cell_of}

module _ (p : Splits) where
  space_one : p.first space ≡ 1
  space_one = let s = p.some space p.blank (omega arith) in let w = p.within space [] p.blank p.empty (omega arith) in omega arith

  clean_one : (t : List ℕ) (u : Bool) → p.first t ≡ length t → p.first (cond u space t) ≡ length (cond u space t)
  clean_one t true e = space_one
  clean_one t false e = e

  clean_short : (t : List ℕ) (u : Bool) → length t ≤ 7 → length (cond u space t) ≤ 7
  clean_short t true l = omega arith
  clean_short t false l = l

  -- a piece of a good text, no longer than seven bytes, is a cell
  pub piece_made : {A : Type 0} (a : A) (t : List ℕ) → Alone p t → length t ≤ 7 → grapheme p t None a ≡ Ok (cell_of p a t)
  piece_made a t h l =
      let one = eq-eqb (p.first (clean t)) (length (clean t)) (clean_one t (unclean t) h.one) in
      let short = le-ltb 7 (length (clean t)) (clean_short t (unclean t) l) in
      rw (h.good, one, short)

  -- the word made of it is not refused, and dressed it is the cell
  pub word_made : {A : Type 0} (a : A) (t u : List ℕ) (width : ℕ) (r : Result Text Refusal) → Alone p t → length t ≤ 7
      → u ≡ clean t → width ≡ cell_width p u None → r ≡ made (clean u) width → mapped (dressed a) r ≡ Ok (cell_of p a t)
  word_made a t u width r h l c w m =
      let one : p.first u ≡ length u = ap p.first c ∙ clean_one t (unclean t) h.one ∙ sym (ap length c) in
      made_cell p t u None width a r h.good c one w m ∙ piece_made a t h l

-- an answer that comes to a value is a value, and that one
pub made_ok : {X Y Z : Type 0} (f : Y → Z) (h : X → Y) (r : Result X Refusal) (z : Z) → mapped f (mapped h r) ≡ Ok z → IsOk r
made_ok f h (Ok x) z e = refl
made_ok f h (Err why) z e = let n : ◌≡◌ {A = ℕ} 0 1 = cc in absurd (omega arith)

pub made_is : {X Y Z : Type 0} (f : Y → Z) (h : X → Y) (r : Result X Refusal) (x : X) (z : Z) → mapped f (mapped h r) ≡ Ok z → r ≡ Ok x → f (h x) ≡ z
made_is f h (Ok w) x z e s = let q : w ≡ x = cc in ap (λ v. f (h v)) (sym q) ∙ cc
made_is f h (Err why) x z e s = let n : ◌≡◌ {A = ℕ} 0 1 = cc in absurd (omega arith)

-- a reader that was opened has the whole text, which is good
opened_by : (b : Bool) (t : List ℕ) (q : List ℕ × ℕ) → ◌≡◌ {A = Result (List ℕ × ℕ) Refusal} (Ok q) (verdict (first_of ((not b, NotGood) ∷ [])) (t, 0)) → (b ≡ true) × (q.0 ≡ t)
opened_by false t q e = let z : ◌≡◌ {A = ℕ} 0 1 = cc in absurd (omega arith)
opened_by true t q e = let h : q ≡ (t, 0) = cc in (refl, ap (λ (v : List ℕ × ℕ). v.0) h)

pub opened_whole : (p : Splits) (t : List ℕ) (q : List ℕ × ℕ) → ◌≡◌ {A = Result (List ℕ × ℕ) Refusal} (Ok q) (opened p t) → (p.good t ≡ true) × (q.0 ≡ t)
opened_whole p t q e = opened_by (p.good t) t q e
