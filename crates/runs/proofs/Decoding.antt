-- Cells are read back from their texts, bits and runs.
use Rattle.std.specs.Prelude.{◌≡◌, ℕ, zero, suc, ◌+◌, ◌-◌, ◌<◌, ◌≤◌, Bool, false, cond, List, [], ◌∷◌, ◌++◌, length, Ok, Err, Result, ◌==◌, nat_eq, refl}
use Rattle.std.proofs.Common.{sym, ap, ◌∙◌, subst, inl, inr, arith}
use Rattle.std.specs.List.{AllByRecursion}
use Rattle.std.proofs.lemmas.Bool.Decides.{nat_tests}
use Rattle.cells.specs.Cells.{Shown, meaning}
use Rattle.cells.specs.Cleaning.{clean}
use Rattle.cells.specs.Kinds.{Kind}
use Rattle.cells.specs.Refusals.{first_of}
use Rattle.cells.specs.Words.{Text, made, word_refusals, text_of, has_zero}
use Rattle.cells.specs.declared.cell.Cell.{Cell}
use Rattle.cells.specs.declared.refusal.Refusal.{Refusal}
use Rattle.cells.proofs.Laid.{Solid, in_solid, text_length}
use Rattle.rows.specs.Bounds.{Sized}
use Rattle.rows.specs.Columns.{wide_at}
use Rattle.rows.specs.Lists.{span}
use Rattle.rows.specs.Spread.{wide, columns_of, spread}
use Rattle.rows.proofs.Sizes.{two}
use Rattle.rows.proofs.Spans.{length_spread}
use Rattle.rows.proofs.Wholes.{spread_append}
use Rattle.runs.specs.declared.run.Run.{Run}
use Rattle.runs.specs.Dressing.{width_by, shows, dress, texts}
use Rattle.runs.specs.Laws.{Worded, unmade}
use Rattle.runs.specs.Runs.{join, stretches, past}
use Rattle.runs.proofs.Stretching.{past_join, stretches_filled}

-- ---- words
no_zero : (t : List ℕ) → Solid t → has_zero t ≡ false
no_zero [] s = refl
no_zero (b ∷ t) s = let i = no_zero t s.1 in grind (arith, nat_tests)

solid_word : (w : ℕ) → has_zero (text_of w) ≡ false
unfolding text_of
solid_word w = no_zero (text_of w) (in_solid 7 w)

module _ {A : Type 0} where
  -- each cell is what its word holds
  pub cell_worded : (c : Cell A) → Worded (meaning c)
  cell_worded c =
      let a = c.text.clean in
      let b = solid_word c.text.word in
      let d = text_length c.text.word in
      let e = c.text.narrow in
      grind (arith, nat_tests)

  -- ---- the columns in which wide cells start
  pub width_wide : (c : Shown A) → Sized c → width_by (wide c) ≡ c.width
  width_wide c h = grind (arith, nat_tests, two c h)

  pub width_more : (c : Shown A) → Sized c → c.width ≡ 1 + cond (wide c) 1 0
  width_more c h = grind (arith, nat_tests, two c h)

  wide_behind : (c : Shown A) (xs : List (Shown A)) (n : ℕ) → Sized c → wide_at (c.width + n) (columns_of c ++ xs) ≡ wide_at n xs
  wide_behind c xs n h =
      elim (two c h) [
        | inl e ↦ let f : c.width + n ≡ suc n = omega arith in rw (f, e)
        | inr e ↦ let f : c.width + n ≡ suc (suc n) = omega arith in rw (f, e.0)
      ]

  pub wide_past : (xs : List (Shown A)) (k : ℕ) → length xs ≤ k → wide_at k xs ≡ false
  wide_past [] k l = refl
  wide_past (x ∷ xs) zero l = absurd (omega arith)
  wide_past (x ∷ xs) (suc k) l = wide_past xs k (omega arith)

  wide_left : (xs ys : List (Shown A)) (k : ℕ) → k < length xs → wide_at k (xs ++ ys) ≡ wide_at k xs
  wide_left [] ys k l = absurd (omega arith)
  wide_left (x ∷ xs) ys zero l = refl
  wide_left (x ∷ xs) ys (suc k) l = wide_left xs ys k (omega arith)

  wide_right : (xs ys : List (Shown A)) (k j : ℕ) → k ≡ length xs + j → wide_at k (xs ++ ys) ≡ wide_at j ys
  wide_right [] ys k j e = let d : k ≡ j = omega arith in ap (λ (n : ℕ). wide_at n ys) d
  wide_right (x ∷ xs) ys zero j e = absurd (omega arith)
  wide_right (x ∷ xs) ys (suc k) j e = wide_right xs ys k j (omega arith)

  second_narrow : (c : Shown A) (j : ℕ) → wide_at (suc j) (columns_of c ++ []) ≡ false
  second_narrow c zero = grind arith
  second_narrow c (suc j) = grind arith

  pub wide_push : (cs : List (Shown A)) (c : Shown A) → AllByRecursion Sized cs → (k : ℕ)
      → wide_at k (spread (cs ++ (c ∷ []))) ≡ cond (k == span cs) (wide c) (wide_at k (spread cs))
  wide_push cs c h k =
      let l : length (spread cs) ≡ span cs = length_spread cs h in
      let r = wide_right (spread cs) (columns_of c ++ []) k (k - span cs) in
      let f = wide_left (spread cs) (columns_of c ++ []) k in
      let n = second_narrow c (k - span cs - 1) in
      let b = wide_past (spread cs) k in
      rw spread_append (grind (arith, nat_tests))

  span_some : (cs : List (Shown A)) → AllByRecursion Sized cs → 0 < length cs → 0 < span cs
  span_some [] h l = absurd (omega arith)
  span_some (c ∷ cs) h l = let w = width_more c h.0 in omega arith

  -- in the last column no wide cell starts
  last_narrow : (cs : List (Shown A)) → AllByRecursion Sized cs → wide_at (span cs - 1) (spread cs) ≡ false
  last_narrow [] h = refl
  last_narrow (c ∷ []) h =
      elim (two c h.0) [
        | inl e ↦ let f : c.width + 0 - 1 ≡ 0 = omega arith in rw f (ap (λ (n : ℕ). nat_eq n 2) e)
        | inr e ↦ let f : c.width + 0 - 1 ≡ 1 = omega arith in rw f (second_narrow c 0)
      ]
  last_narrow (c ∷ (d ∷ cs)) h =
      let s = span_some (d ∷ cs) h.1 (omega arith) in
      let e : c.width + span (d ∷ cs) - 1 ≡ c.width + (span (d ∷ cs) - 1) = omega arith in
      ap (λ (n : ℕ). wide_at n (spread (c ∷ (d ∷ cs)))) e ∙ wide_behind c (spread (d ∷ cs)) (span (d ∷ cs) - 1) h.0 ∙ last_narrow (d ∷ cs) h.1

  -- whether the last cell is wide shows two columns before the end
  pub last_wide : (cs : List (Shown A)) (c : Shown A) → AllByRecursion Sized cs → Sized c → wide_at (span cs + c.width - 2) (spread (cs ++ (c ∷ []))) ≡ wide c
  last_wide cs c h q = grind (arith, nat_tests, last_narrow cs h, two c q, wide_push cs c h (span cs + c.width - 2))

  -- ---- reading back
  -- bits say the widths of cells from a column on
  abbrev pub Marked : (ℕ → Bool) → ℕ → List (Shown A) → Type 0
  Marked bits x [] = Unit {0}
  Marked bits x (c ∷ cs) = (width_by (bits x) ≡ c.width) × Marked bits (x + c.width) cs

  pub marked_wide : (bits : ℕ → Bool) (x : ℕ) (cs : List (Shown A)) → AllByRecursion Sized cs → ((j : ℕ) → bits (x + j) ≡ wide_at j (spread cs)) → Marked bits x cs
  marked_wide bits x [] h f = tt
  marked_wide bits x (c ∷ cs) h f =
      let z : x + 0 ≡ x = omega arith in (
        ap width_by (ap bits (sym z) ∙ f 0) ∙ width_wide c h.0,
        marked_wide bits (x + c.width) cs h.1
            (λ j. let e : x + c.width + j ≡ x + (c.width + j) = omega arith in ap bits e ∙ f (c.width + j) ∙ wide_behind c (spread cs) j h.0),
      )

  module _ (k : Kind A) where
    dress_join : (bits : ℕ → Bool) (p : List ℕ) (ps : List (List ℕ)) (x : ℕ) (a : A) (rs : List (Run A))
        → dress bits (p ∷ ps) x (join k a rs) ≡ shows (made (clean p) (width_by (bits x))) a (dress bits ps (x + width_by (bits x)) (past (join k a rs)))
    dress_join bits p ps x a [] = refl
    dress_join bits p ps x a (r ∷ rs) = grind arith

    -- cells are read back from their texts, bits and stretches
    pub read_back : (bits : ℕ → Bool) (x : ℕ) (cs : List (Shown A)) → AllByRecursion Worded cs → Marked bits x cs → dress bits (texts cs) x (stretches k cs) ≡ cs
    read_back bits x [] w m = refl
    read_back bits x (c ∷ cs) w m =
        rw (dress_join bits c.text (texts cs) x c.attrs (stretches k cs), m.0, w.0, past_join k c.attrs (stretches k cs) (stretches_filled k cs), read_back bits (x + c.width) cs w.1 m.1) refl

    -- whatever pieces a text has, the cells that it gives with these bits and stretches take no more columns
    shows_span : (p : List ℕ) (w n : ℕ) (o : Result Text Refusal) (a : A) (rest : List (Shown A)) → made (clean p) w ≡ o → span rest ≤ n → span (shows o a rest) ≤ w + n
    shows_span p w n (Err why) a rest e l = omega arith
    shows_span p w n (Ok t) a rest e l =
        let u : w ≡ t.width = ap (λ (x : Text). x.width) (unmade (first_of (word_refusals (clean p) w)) (record { text = clean p; width = w }) t e).1 in
        omega arith

    pub span_any : (bits : ℕ → Bool) (ps : List (List ℕ)) (x : ℕ) (cs : List (Shown A)) → Marked bits x cs → span (dress bits ps x (stretches k cs)) ≤ span cs
    span_any bits [] x cs m = omega arith
    span_any bits (p ∷ ps) x [] m = omega arith
    span_any bits (p ∷ ps) x (c ∷ cs) m =
        let e : dress bits (p ∷ ps) x (stretches k (c ∷ cs)) ≡ shows (made (clean p) c.width) c.attrs (dress bits ps (x + c.width) (stretches k cs)) =
        dress_join bits p ps x c.attrs (stretches k cs)
        ∙ ap (λ (n : ℕ). shows (made (clean p) n) c.attrs (dress bits ps (x + n) (past (join k c.attrs (stretches k cs))))) m.0
        ∙ ap (λ rs. shows (made (clean p) c.width) c.attrs (dress bits ps (x + c.width) rs)) (past_join k c.attrs (stretches k cs) (stretches_filled k cs)) in
        subst (λ (u : List (Shown A)). span u ≤ c.width + span cs) (sym e)
        (shows_span p c.width (span cs) (made (clean p) c.width) c.attrs (dress bits ps (x + c.width) (stretches k cs)) refl (span_any bits ps (x + c.width) cs m.1))

  -- ---- past the table no bit is set
  pub dress_far : (bits : ℕ → Bool) → ((k : ℕ) → 4096 ≤ k → bits k ≡ false) → (ps : List (List ℕ)) (x y : ℕ) (rs : List (Run A)) → 4096 ≤ x → 4096 ≤ y
      → dress bits ps x rs ≡ dress bits ps y rs
  dress_far bits f [] x y rs l h = refl
  dress_far bits f (p ∷ ps) x y [] l h = refl
  dress_far bits f (p ∷ ps) x y (r ∷ rs) l h =
      rw (f x l, f y h, dress_far bits f ps (x + 1) (y + 1) (past (r ∷ rs)) (omega arith) (omega arith)) refl
