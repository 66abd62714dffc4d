-- The first refused cell.
use Rattle.std.proofs.Common.{◌≡◌, List, [], ◌∷◌, ◌++◌, map, Some, None, Option, sym, refl, ap, ◌∙◌, append-nil}
use Rattle.std.proofs.lemmas.List.{map-append}
use Rattle.cells.specs.Cells.{Shown}
use Rattle.cells.specs.declared.refusal.Refusal.{Refusal}
use Rattle.splitters.specs.Splits.{Splits}
use Rattle.rows.specs.Packing.{or_else, take_refusal, behind, first_some, compaction}
use Rattle.rows.specs.PackingLaws.{Compacting}

first_some_append : (xs ys : List (Option Refusal)) → first_some (xs ++ ys) ≡ or_else (first_some xs) (first_some ys)
first_some_append [] ys = refl
first_some_append (Some why ∷ xs) ys = refl
first_some_append (None ∷ xs) ys = first_some_append xs ys

or_none : (o : Option Refusal) → or_else o None ≡ o
or_none (Some why) = refl
or_none None = refl

module _ {X : Type 0} where
  map_map : {Y Z : Type 0} (f : X → Y) (g : Y → Z) (xs : List X) → map g (map f xs) ≡ map (λ x. g (f x)) xs
  map_map f g [] = refl
  map_map f g (x ∷ xs) = ap (λ v. g (f x) ∷ v) (map_map f g xs)

  -- each with those before it, where more stand in front
  abbrev led : List X → List X × X → List X × X
  led front s = (front ++ s.0, s.1)

  abbrev one : X → List X × X → List X × X
  one x s = (x ∷ s.0, s.1)

module _ {X : Type 0} where
  behind_append : (xs ys : List X) → behind (xs ++ ys) ≡ behind xs ++ map (led xs) (behind ys)
  behind_append [] ys = sym (map_id (behind ys))
    where
      map_id : (ss : List (List X × X)) → map (led []) ss ≡ ss
      map_id [] = refl
      map_id (s ∷ ss) = ap (λ v. s ∷ v) (map_id ss)
  behind_append (x ∷ xs) ys =
      ap (λ v. ([], x) ∷ map (one x) v) (behind_append xs ys)
      ∙ ap (λ v. ([], x) ∷ v) (map-append (one x) (behind xs) (map (led xs) (behind ys)) ∙ ap (λ v. map (one x) (behind xs) ++ v) (map_map (led xs) (one x) (behind ys)))

module _ {A : Type 0} (p : Splits) (rule : List (Shown A) → Shown A → Option Refusal) where
  abbrev taking : List (Shown A) × Shown A → Option Refusal
  taking s = take_refusal p rule s.0 s.1

  pub compaction_append : (cells rest : List (Shown A)) → compaction p rule (cells ++ rest) ≡ or_else (compaction p rule cells) (first_some (map (λ s. taking (led cells s)) (behind rest)))
  compaction_append cells rest =
      ap (λ v. first_some (map taking v)) (behind_append cells rest)
      ∙ ap first_some (map-append taking (behind cells) (map (led cells) (behind rest)) ∙ ap (λ v. map taking (behind cells) ++ v) (map_map (led cells) taking (behind rest)))
      ∙ first_some_append (map taking (behind cells)) (map (λ s. taking (led cells s)) (behind rest))

  pub compacting : Compacting p rule
  compacting = record {
    none = refl;
    more = λ cells c. compaction_append cells (c ∷ [])
        ∙ ap (λ o. or_else (compaction p rule cells) o) (or_none (take_refusal p rule (cells ++ []) c) ∙ ap (λ v. take_refusal p rule v c) (append-nil cells));
    first = λ taken rest c why e f. compaction_append taken (c ∷ rest)
        ∙ ap (λ o. or_else o (first_some (map (λ s. taking (led taken s)) (behind (c ∷ rest))))) e
        ∙ ap (λ o. or_else o (first_some (map (λ s. taking (led taken s)) (map (one c) (behind rest))))) (ap (λ v. take_refusal p rule v c) (append-nil taken) ∙ f);
  }
