-- What is left out at the end: all of it fails the test, and what is left ends with one that passes.
use Rattle.std.proofs.Common.{◌≡◌, ℕ, Bool, true, false, ◌||◌, List, [], ◌∷◌, Some, sym, refl, ap, ◌∙◌, ⊎_elim, arith}
use Rattle.std.specs.List.{AllByRecursion}
use Rattle.std.proofs.lemmas.Bool.{false≢true, cases_Bool, or_parts}
use Rattle.rows.specs.Lists.{last_of}
use Rattle.rows.specs.Trims.{any, up_to_last}
use Rattle.rows.specs.WrapLaws.{Trimmed}

module _ {X : Type 0} (p : X → Bool) where
  pub none_pass : (xs : List X) → any p xs ≡ false → AllByRecursion (λ x. p x ≡ false) xs
  none_pass [] e = tt
  none_pass (x ∷ xs) e = let h = or_parts (p x) (any p xs) e in (h.0, none_pass xs h.1)

  keeps_first : (x : X) (xs : List X) → any p (x ∷ xs) ≡ true → up_to_last p (x ∷ xs) ≡ x ∷ up_to_last p xs
  keeps_first x xs e = rw e

  pub keeps_none : (xs : List X) → any p xs ≡ false → up_to_last p xs ≡ []
  keeps_none [] e = refl
  keeps_none (x ∷ xs) e = rw e

  last_passes : (x : X) (xs kept : List X) → any p (x ∷ xs) ≡ true → Trimmed p xs kept → (y : X) → last_of (x ∷ kept) ≡ Some y → p y ≡ true
  last_passes x xs [] e t y l =
      let same : x ≡ y = cc in
      ⊎_elim
      (λ h. ap p (sym same) ∙ h)
      (λ h. let z = t.some (ap (λ b. b || any p xs) (sym h) ∙ e) in absurd (omega arith))
      (cases_Bool (p x))
  last_passes x xs (z ∷ kept) e t y l = t.ends y l

  pub trims : (xs : List X) → Trimmed p xs (up_to_last p xs)
  trims [] = record {
    dropped = [];
    joins = refl;
    fail = tt;
    ends = λ x e. let z : ◌≡◌ {A = ℕ} 0 1 = cc in absurd (omega arith);
    some = λ e. absurd (false≢true e);
  }
  trims (x ∷ xs) =
      ⊎_elim
      (λ e. rw (keeps_first x xs e) (let t = trims xs in record {
        dropped = t.dropped;
        joins = ap (λ ys. x ∷ ys) t.joins;
        fail = t.fail;
        ends = last_passes x xs (up_to_last p xs) e t;
        some = λ h. omega arith;
      }))
      (λ e. rw (keeps_none (x ∷ xs) e) (record {
        dropped = x ∷ xs;
        joins = refl;
        fail = none_pass (x ∷ xs) e;
        ends = λ y l. let z : ◌≡◌ {A = ℕ} 0 1 = cc in absurd (omega arith);
        some = λ h. absurd (false≢true (sym e ∙ h));
      }))
      (cases_Bool (any p (x ∷ xs)))
