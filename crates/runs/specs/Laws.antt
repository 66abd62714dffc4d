-- What the run store cites where it keeps the law of a store on widths.
-- unmade        an answer that is a value is not refused, and it is that value
-- Worded        a cell's text and width are those of a word that can be made
-- Word          what is then true of the text and the width
-- word          a word that was made has such a text and width
-- all_sized     each cell takes one column or two
-- dress_worded  every cell that is read from pieces, bits and runs is worded
-- sound_sized   so each cell that a run store shows takes one column or two
use Rattle.std.specs.Prelude.{◌≡◌, ℕ, ◌+◌, ◌<◌, ◌≤◌, Bool, false, List, [], ◌∷◌, length, vec_items, None, Some, Ok, Err, Option, Result, refl}
use Rattle.std.specs.List.{AllByRecursion}
use Rattle.std.proofs.Common.{sym, ap, ◌∙◌, subst}
use Rattle.std.proofs.lemmas.Bool.{ltb-false}
use Rattle.cells.specs.Cells.{Shown}
use Rattle.cells.specs.Cleaning.{clean}
use Rattle.cells.specs.Refusals.{first_of, verdict}
use Rattle.cells.specs.Words.{Text, made, word_refusals, bad_width}
use Rattle.cells.specs.declared.refusal.Refusal.{Refusal}
use Rattle.cells.proofs.Refused.{none_fits, nonempty, clean_is_clean}
use Rattle.splitters.proofs.Making.{clean_twice}
use Rattle.splitters.specs.Pieces.{pieces}
use Rattle.splitters.specs.Splits.{Splits}
use Rattle.rows.specs.Bounds.{Sized}
use Rattle.runs.specs.declared.memory.Memory.{Memory}
use Rattle.runs.specs.declared.run.Run.{Run}
use Rattle.runs.specs.Bits.{bits_of}
use Rattle.runs.specs.Dressing.{width_by, shows, dress}
use Rattle.runs.specs.Runs.{past}
use Rattle.runs.specs.Sounds.{cells}

pub unmade : {X : Type 0} (o : Option Refusal) (t u : X) → verdict o t ≡ Ok u → (o ≡ None) × (t ≡ u)
unmade None t u e = (refl, cc)
unmade (Some why) t u e = absurd cc

module _ {A : Type 0} where
  -- a word holds the cell's text and width
  abbrev pub Worded : Shown A → Type 0
  Worded c = made (clean c.text) c.width ≡ Ok (record { text = c.text; width = c.width })

  pub record Word (c : Shown A) : Type 0 where
    pub some : 0 < length c.text
    pub few : length c.text ≤ 7
    pub sized : Sized c

  pub word : (c : Shown A) → Worded c → Word c
  word c e =
      let u = unmade (first_of (word_refusals (clean c.text) c.width)) (record { text = clean c.text; width = c.width }) (record { text = c.text; width = c.width }) e in
      let t : clean c.text ≡ c.text = ap (λ (x : Text). x.text) u.1 in
      let n = none_fits (word_refusals (clean c.text) c.width) u.0 in
      let b : bad_width c.text c.width ≡ false = ap (λ (x : List ℕ). bad_width x c.width) (sym t) ∙ n.1.1.0 in
      record {
        some = subst (λ (x : List ℕ). 0 < length x) t (nonempty (clean c.text) (clean_is_clean c.text));
        few = subst (λ (x : List ℕ). length x ≤ 7) t (ltb-false 7 (length (clean c.text)) n.1.0);
        sized = b;
      }

  pub all_sized : (cs : List (Shown A)) → AllByRecursion Worded cs → AllByRecursion Sized cs
  all_sized [] h = tt
  all_sized (c ∷ cs) h = ((word c h.0).sized, all_sized cs h.1)

  shows_worded : (p : List ℕ) (w : ℕ) (o : Result Text Refusal) (a : A) (rest : List (Shown A)) → made (clean p) w ≡ o → AllByRecursion Worded rest → AllByRecursion Worded (shows o a rest)
  shows_worded p w (Err why) a rest e h = tt
  shows_worded p w (Ok t) a rest e h =
      let u : record { text = clean p; width = w } ≡ t = (unmade (first_of (word_refusals (clean p) w)) (record { text = clean p; width = w }) t e).1 in
      let m : made (clean (clean p)) w ≡ Ok (record { text = clean p; width = w }) = ap (λ (x : List ℕ). made x w) (clean_twice p) ∙ e ∙ ap (λ (x : Text). Ok x) (sym u) in
      (subst (λ (x : Text). made (clean x.text) x.width ≡ Ok (record { text = x.text; width = x.width })) u m, h)

  -- every cell that is read is what its word holds
  pub dress_worded : (bits : ℕ → Bool) (ps : List (List ℕ)) (x : ℕ) (rs : List (Run A)) → AllByRecursion Worded (dress bits ps x rs)
  dress_worded bits [] x rs = tt
  dress_worded bits (p ∷ ps) x [] = tt
  dress_worded bits (p ∷ ps) x (r ∷ rs) =
      shows_worded p (width_by (bits x)) (made (clean p) (width_by (bits x))) r.attrs (dress bits ps (x + width_by (bits x)) (past (r ∷ rs))) refl
      (dress_worded bits ps (x + width_by (bits x)) (past (r ∷ rs)))

  pub sound_sized : (p : Splits) (s : Memory A) → AllByRecursion Sized (cells p s)
  sound_sized p s =
      all_sized (cells p s) (dress_worded (bits_of s.wide) (pieces p.first (vec_items s.text)) 0 (vec_items s.runs))
