-- Equality of rows holds exactly where numbers, lengths and columns agree, and is an equivalence.
use Rattle.std.proofs.Common.{◌≡◌, eqb, List, [], ◌∷◌, length, Decides, sym, refl, ◌∙◌, inl, inr, arith, length-append}
use Rattle.std.specs.List.{AllZip, AllByRecursion}
use Rattle.std.proofs.lemmas.List.Elements.{length_all_zip}
use Rattle.std.proofs.lemmas.Bool.{false≢true}
use Rattle.std.proofs.lemmas.Bool.Decides.{Decides-and, Decides-eqb, Decides-like}
use Rattle.cells.specs.Cells.{Shown, equal, Equal}
use Rattle.cells.specs.Kinds.{Kind}
use Rattle.cells.proofs.Agreeing.{equal_exact}
use Rattle.rows.specs.Lists.{span}
use Rattle.rows.specs.Questions.{agree, equal_rows}
use Rattle.rows.specs.QuestionLaws.{OneOrTwo, EqualRows, Equivalence, Exact}
use Rattle.rows.specs.Rows.{State}
use Rattle.rows.specs.Spread.{columns_of, spread}

module _ {A : Type 0} where
  same : (xs : List (Shown A)) → AllZip Equal xs xs
  same [] = tt
  same (x ∷ xs) = (record { text = refl; attrs = refl }, same xs)

  turned : (xs ys : List (Shown A)) → AllZip Equal xs ys → AllZip Equal ys xs
  turned [] [] h = tt
  turned [] (y ∷ ys) h = h
  turned (x ∷ xs) [] h = h
  turned (x ∷ xs) (y ∷ ys) h = (record { text = sym h.0.text; attrs = sym h.0.attrs }, turned xs ys h.1)

  chained : (xs ys zs : List (Shown A)) → AllZip Equal xs ys → AllZip Equal ys zs → AllZip Equal xs zs
  chained [] [] zs h g = g
  chained [] (y ∷ ys) zs h g = absurd h
  chained (x ∷ xs) [] zs h g = absurd h
  chained (x ∷ xs) (y ∷ ys) [] h g = g
  chained (x ∷ xs) (y ∷ ys) (z ∷ zs) h g =
      (record { text = h.0.text ∙ g.0.text; attrs = h.0.attrs ∙ g.0.attrs }, chained xs ys zs h.1 g.1)

  columns_length : (c : Shown A) → OneOrTwo c → length (columns_of c) ≡ c.width
  columns_length c (inl e) = rw e
  columns_length c (inr e) = rw e

  spread_length : (cs : List (Shown A)) → AllByRecursion OneOrTwo cs → length (spread cs) ≡ span cs
  spread_length [] h = refl
  spread_length (c ∷ cs) h =
      let i = spread_length cs h.1 in
      let l = columns_length c h.0 in
      length-append (columns_of c) (spread cs) ∙ omega arith

module _ {A : Type 0} (k : Kind A) where
  agrees : (xs ys : List (Shown A)) → Decides (agree k xs ys) (AllZip Equal xs ys)
  agrees [] [] = ((λ e. tt), (λ h. refl))
  agrees [] (y ∷ ys) = ((λ e. absurd (false≢true e)), (λ h. absurd h))
  agrees (x ∷ xs) [] = ((λ e. absurd (false≢true e)), (λ h. absurd h))
  agrees (x ∷ xs) (y ∷ ys) = Decides-and (equal k x y) (agree k xs ys) (equal_exact k x y) (agrees xs ys)

  tested : (s t : State A) → Decides (equal_rows k s t) ((s.number ≡ t.number) × AllZip Equal (spread s.cells) (spread t.cells))
  tested s t =
      Decides-and (eqb s.number t.number) (agree k (spread s.cells) (spread t.cells))
      (Decides-eqb s.number t.number) (agrees (spread s.cells) (spread t.cells))

pub equivalence : {A : Type 0} → Equivalence A
equivalence = record {
  reflexive = λ k s. (tested k s s).1 (refl, same (spread s.cells));
  symmetric = λ k s t e. let h = (tested k s t).0 e in (tested k t s).1 (sym h.0, turned (spread s.cells) (spread t.cells) h.1);
  transitive = λ k r s t e f.
      let h = (tested k r s).0 e in
      let g = (tested k s t).0 f in
      (tested k r t).1 (h.0 ∙ g.0, chained (spread r.cells) (spread s.cells) (spread t.cells) h.1 g.1);
}

pub exact : {A : Type 0} → Exact A
exact {A} k s t p q =
    Decides-like (equal_rows k s t)
    (λ (h : (s.number ≡ t.number) × AllZip Equal (spread s.cells) (spread t.cells)). record {
      number = h.0;
      length = sym (spread_length s.cells p) ∙ length_all_zip Equal (spread s.cells) (spread t.cells) h.1 ∙ spread_length t.cells q;
      cells = h.1;
    })
    (λ (h : EqualRows s t). (h.number, h.cells))
    (tested k s t)
