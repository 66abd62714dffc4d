-- What is left out at the end of a list, by its last element.
use Rattle.std.proofs.Common.{◌≡◌, Bool, true, false, cond, ◌||◌, List, [], ◌∷◌, ◌++◌, ap, ◌∙◌}
use Rattle.std.proofs.lemmas.Bool.{or_right}
use Rattle.rows.specs.Trims.{any, up_to_last}

module _ {X : Type 0} (p : X → Bool) (c : X) where
  any_yes : (ys : List X) → p c ≡ false → any p (ys ++ (c ∷ [])) ≡ any p ys
  any_yes [] e = rw e
  any_yes (y ∷ ys) e = ap (λ v. p y || v) (any_yes ys e)

  any_no : (ys : List X) → p c ≡ true → any p (ys ++ (c ∷ [])) ≡ true
  any_no [] e = rw e
  any_no (y ∷ ys) e = or_right (p y) (any p (ys ++ (c ∷ []))) (any_no ys e)

  pub trimmed_yes : (ys : List X) → p c ≡ false → up_to_last p (ys ++ (c ∷ [])) ≡ up_to_last p ys
  trimmed_yes [] e = rw e
  trimmed_yes (y ∷ ys) e =
      ap (λ v. cond (p y || v) (y ∷ up_to_last p (ys ++ (c ∷ []))) []) (any_yes ys e) ∙ ap (λ v. cond (p y || any p ys) (y ∷ v) []) (trimmed_yes ys e)

  pub trimmed_no : (ys : List X) → p c ≡ true → up_to_last p (ys ++ (c ∷ [])) ≡ ys ++ (c ∷ [])
  trimmed_no [] e = rw e
  trimmed_no (y ∷ ys) e =
      ap (λ v. cond v (y ∷ up_to_last p (ys ++ (c ∷ []))) []) (any_no (y ∷ ys) e) ∙ ap (λ v. y ∷ v) (trimmed_no ys e)
