-- One more cell into a store: what refuses it refuses all, and what does not goes on.
use Rattle.std.proofs.Common.{◌≡◌, ℕ, List, [], ◌∷◌, ◌++◌, None, Some, Ok, Err, Option, sym, refl, ap, ◌∙◌, append_assoc}
use Rattle.cells.specs.Cells.{Shown}
use Rattle.cells.specs.Refusals.{verdict}
use Rattle.cells.specs.declared.refusal.Refusal.{Refusal}
use Rattle.splitters.specs.Splits.{Splits}
use Rattle.rows.specs.Packing.{or_else, take_refusal, compaction}
use Rattle.rows.specs.Rows.{unless}
use Rattle.rows.proofs.Compaction.{compacting}

refused_by : (o : Option Refusal) (why : Refusal) → Err why ≡ verdict o (tt {0}) → o ≡ Some why
refused_by None why e = absurd cc
refused_by (Some w) why e = cc

-- which value a taken cell gives does not matter
taken_by : (o : Option Refusal) (u : Unit {0}) → Ok u ≡ verdict o (tt {0}) → o ≡ None
taken_by None u e = refl
taken_by (Some w) u e = absurd cc

kept : {X : Type 0} (o : Option Refusal) (x y : X) → o ≡ None → unless o x y ≡ y
kept o x y e = ap (λ (v : Option Refusal). unless v x y) e

-- what is the same, refused or not
pub either : {X : Type 0} (o : Option Refusal) (x : X) → unless o x x ≡ x
either None x = refl
either (Some why) x = refl

module _ {A : Type 0} (p : Splits) (rule : List ℕ → List (Shown A) → Shown A → Option Refusal) where
  pub stopped : (sizes same : List ℕ) (taken left rest all : List (Shown A)) (c : Shown A) (why : Refusal) → same ≡ sizes → taken ++ left ≡ all → left ≡ c ∷ rest
      → compaction p (rule sizes) taken ≡ None → Err why ≡ verdict (take_refusal p (rule same) taken c) (tt {0}) → compaction p (rule sizes) all ≡ Some why
  stopped sizes same taken left rest all c why s a l n e =
      let f : take_refusal p (rule sizes) taken c ≡ Some why = ap (λ (z : List ℕ). take_refusal p (rule z) taken c) (sym s) ∙ refused_by (take_refusal p (rule same) taken c) why e in
      let g : compaction p (rule sizes) (taken ++ (c ∷ rest)) ≡ Some why = (compacting p (rule sizes)).first taken rest c why n f in
      let h : all ≡ taken ++ (c ∷ rest) = sym a ∙ ap (λ (u : List (Shown A)). taken ++ u) l in
      ap (compaction p (rule sizes)) h ∙ g

  pub goes_on : (sizes same : List ℕ) (taken after left rest all : List (Shown A)) (c : Shown A) (u : Unit {0}) → same ≡ sizes → taken ++ left ≡ all → left ≡ c ∷ rest
      → compaction p (rule sizes) taken ≡ None → Ok u ≡ verdict (take_refusal p (rule same) taken c) (tt {0})
      → after ≡ unless (take_refusal p (rule same) taken c) taken (taken ++ (c ∷ []))
      → (after ++ rest ≡ all) × (compaction p (rule sizes) after ≡ None)
  goes_on sizes same taken after left rest all c u s a l n e r =
      let o : take_refusal p (rule same) taken c ≡ None = taken_by (take_refusal p (rule same) taken c) u e in
      let w : after ≡ taken ++ (c ∷ []) = r ∙ kept (take_refusal p (rule same) taken c) taken (taken ++ (c ∷ [])) o in
      let f : take_refusal p (rule sizes) taken c ≡ None = ap (λ (z : List ℕ). take_refusal p (rule z) taken c) (sym s) ∙ o in (
        ap (λ (v : List (Shown A)). v ++ rest) w ∙ append_assoc taken (c ∷ []) rest ∙ ap (λ (v : List (Shown A)). taken ++ v) (sym l) ∙ a,
        ap (compaction p (rule sizes)) w ∙ (compacting p (rule sizes)).more taken c ∙ ap (λ (v : Option Refusal). or_else v (take_refusal p (rule sizes) taken c)) n ∙ f,
      )
