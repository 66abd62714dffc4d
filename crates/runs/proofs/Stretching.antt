-- Runs of cells with equal attributes.
use Rattle.std.specs.Prelude.{◌≡◌, ℕ, zero, suc, ◌+◌, ◌-◌, ◌<◌, ◌≤◌, true, false, cond, not, List, [], ◌∷◌, ◌++◌, map, length, take, slice_index_or, slice_set, refl}
use Rattle.std.proofs.Common.{sym, ap, ◌∙◌, subst, arith}
use Rattle.std.proofs.lemmas.List.{length-set, length_push, set-get_or}
use Rattle.std.proofs.lemmas.Bool.Decides.{nat_tests}
use Rattle.cells.specs.Cells.{Shown}
use Rattle.cells.specs.Kinds.{Kind}
use Rattle.rows.specs.Packing.{runs_needed}
use Rattle.runs.specs.declared.run.Run.{Run}
use Rattle.runs.specs.Runs.{run, join, stretches, extend, past, shrink, total, same_runs, Apart, spread_out}

module _ {A : Type 0} where
  -- each run has a cell
  abbrev pub Filled : List (Run A) → Type 0
  Filled [] = Unit {0}
  Filled (r ∷ rs) = (0 < r.cells) × Filled rs

  -- ---- two lists of runs that a test finds to be one
  pub alike : (k : Kind A) (rs ss : List (Run A)) → same_runs k rs ss ≡ true → rs ≡ ss
  alike k [] [] e = refl
  alike k [] (s ∷ ss) e = grind arith
  alike k (r ∷ rs) [] e = grind arith
  alike k (r ∷ rs) (s ∷ ss) e = grind (arith, nat_tests, k.identical r.attrs s.attrs, alike k rs ss)

  pub alike_self : (k : Kind A) (rs : List (Run A)) → same_runs k rs rs ≡ true
  alike_self k [] = refl
  alike_self k (r ∷ rs) = grind (arith, nat_tests, k.reflexive r.attrs, alike_self k rs)

  -- ---- any two kinds of one type agree
  same_any : (k j : Kind A) (a b : A) → k.same a b ≡ j.same a b
  same_any k j a b = grind (arith, k.identical a b, j.identical a b, k.reflexive a, j.reflexive a)

  join_any : (k j : Kind A) (a : A) (rs : List (Run A)) → join k a rs ≡ join j a rs
  join_any k j a [] = refl
  join_any k j a (r ∷ rs) = ap (λ v. cond v (run (1 + r.cells) a ∷ rs) (run 1 a ∷ (r ∷ rs))) (same_any k j a r.attrs)

  pub stretches_any : (k j : Kind A) (cs : List (Shown A)) → stretches k cs ≡ stretches j cs
  stretches_any k j [] = refl
  stretches_any k j (c ∷ cs) = ap (join k c.attrs) (stretches_any k j cs) ∙ join_any k j c.attrs (stretches j cs)

  -- runs that are the stretches of cells by one kind are so by any
  pub even_from : (k : Kind A) (rs : List (Run A)) (cs : List (Shown A)) → rs ≡ stretches k cs → (j : Kind A) → same_runs j rs (stretches j cs) ≡ true
  even_from k rs cs e j = subst (λ u. same_runs j u (stretches j cs) ≡ true) (sym (e ∙ stretches_any k j cs)) (alike_self j (stretches j cs))

  module _ (k : Kind A) where
    join_filled : (a : A) (rs : List (Run A)) → Filled rs → Filled (join k a rs)
    join_filled a [] f = (omega arith, tt)
    join_filled a (r ∷ rs) f = grind arith

    pub stretches_filled : (cs : List (Shown A)) → Filled (stretches k cs)
    stretches_filled [] = tt
    stretches_filled (c ∷ cs) = join_filled c.attrs (stretches k cs) (stretches_filled cs)

    -- ---- the first cell taken off again
    pub past_join : (a : A) (rs : List (Run A)) → Filled rs → past (join k a rs) ≡ rs
    past_join a [] f = refl
    past_join a (r ∷ rs) f = grind (arith, nat_tests, k.identical a r.attrs)

    -- ---- one more cell behind
    extend_join : (rs : List (Run A)) (a d : A) → extend k (join k d rs) a ≡ join k d (extend k rs a)
    extend_join [] a d = grind (arith, nat_tests)
    extend_join (r ∷ []) a d = grind (arith, nat_tests, k.identical d r.attrs)
    extend_join (r ∷ s ∷ rs) a d = grind (arith, nat_tests)

    pub stretches_push : (cs : List (Shown A)) (c : Shown A) → stretches k (cs ++ (c ∷ [])) ≡ extend k (stretches k cs) c.attrs
    stretches_push [] c = refl
    stretches_push (d ∷ cs) c = ap (join k d.attrs) (stretches_push cs c) ∙ sym (extend_join (stretches k cs) c.attrs d.attrs)

    -- how code extends: the last run grows, or one is pushed
    pub extend_like : (rs : List (Run A)) (n : ℕ) (r : Run A) (a : A) → length rs ≡ suc n → r ≡ slice_index_or rs n r → k.same r.attrs a ≡ true
        → slice_set rs n (run (r.cells + 1) r.attrs) ≡ extend k rs a
    extend_like [] n r a l e h = absurd (omega arith)
    extend_like (s ∷ []) zero r a l e h = grind arith
    extend_like (s ∷ []) (suc n) r a l e h = absurd (omega arith)
    extend_like (s ∷ t ∷ ts) zero r a l e h = absurd (omega arith)
    extend_like (s ∷ t ∷ ts) (suc n) r a l e h = ap (λ u. s ∷ u) (extend_like (t ∷ ts) n r a (omega arith) e h)

    pub extend_unlike : (rs : List (Run A)) (n : ℕ) (r : Run A) (a : A) → length rs ≡ suc n → r ≡ slice_index_or rs n r → k.same r.attrs a ≡ false
        → rs ++ (run 1 a ∷ []) ≡ extend k rs a
    extend_unlike [] n r a l e h = absurd (omega arith)
    extend_unlike (s ∷ []) zero r a l e h = grind arith
    extend_unlike (s ∷ []) (suc n) r a l e h = absurd (omega arith)
    extend_unlike (s ∷ t ∷ ts) zero r a l e h = absurd (omega arith)
    extend_unlike (s ∷ t ∷ ts) (suc n) r a l e h = ap (λ u. s ∷ u) (extend_unlike (t ∷ ts) n r a (omega arith) e h)

    pub extend_none : (rs : List (Run A)) (a : A) → length rs ≡ 0 → rs ++ (run 1 a ∷ []) ≡ extend k rs a
    extend_none [] a l = refl
    extend_none (r ∷ rs) a l = absurd (omega arith)

    pub extend_length : (rs : List (Run A)) (n : ℕ) (r : Run A) (a : A) → length rs ≡ suc n → r ≡ slice_index_or rs n r
        → length (extend k rs a) ≡ cond (not (k.same r.attrs a)) (length rs + 1) (length rs)
    extend_length rs n r a l e =
        grind (arith, extend_like rs n r a l e, extend_unlike rs n r a l e, length-set rs n (run (r.cells + 1) r.attrs), length_push rs (run 1 a))

    -- ---- the last cell taken off again
    shrink_cons : (r : Run A) (rs : List (Run A)) → 0 < length rs → shrink (r ∷ rs) ≡ r ∷ shrink rs
    shrink_cons r [] l = absurd (omega arith)
    shrink_cons r (s ∷ rs) l = refl

    extend_some : (rs : List (Run A)) (a : A) → 0 < length (extend k rs a)
    extend_some [] a = omega arith
    extend_some (r ∷ []) a = grind arith
    extend_some (r ∷ s ∷ rs) a = omega arith

    shrink_one : (r : Run A) (a : A) → 0 < r.cells → shrink (extend k (r ∷ []) a) ≡ r ∷ []
    shrink_one r a l = grind (arith, nat_tests)

    pub shrink_extend : (rs : List (Run A)) (a : A) → Filled rs → shrink (extend k rs a) ≡ rs
    shrink_extend [] a f = refl
    shrink_extend (r ∷ []) a f = shrink_one r a f.0
    shrink_extend (r ∷ s ∷ rs) a f = shrink_cons r (extend k (s ∷ rs) a) (extend_some (s ∷ rs) a) ∙ ap (λ us. r ∷ us) (shrink_extend (s ∷ rs) a f.1)

    -- ---- neighbours are unlike, and the attributes are those of the cells
    join_apart : (a : A) (rs : List (Run A)) → Apart k rs → Apart k (join k a rs)
    join_apart a [] f = omega arith
    join_apart a (r ∷ []) f = grind (arith, nat_tests)
    join_apart a (r ∷ (s ∷ rs)) f = grind (arith, nat_tests, k.identical a r.attrs)

    pub stretches_apart : (cs : List (Shown A)) → Apart k (stretches k cs)
    stretches_apart [] = tt
    stretches_apart (c ∷ cs) = join_apart c.attrs (stretches k cs) (stretches_apart cs)

    join_out : (a : A) (rs : List (Run A)) → spread_out (join k a rs) ≡ a ∷ spread_out rs
    join_out a [] = refl
    join_out a (r ∷ rs) = grind (arith, nat_tests, k.identical a r.attrs)

    pub stretches_out : (cs : List (Shown A)) → spread_out (stretches k cs) ≡ map (λ c. c.attrs) cs
    stretches_out [] = refl
    stretches_out (c ∷ cs) = join_out c.attrs (stretches k cs) ∙ ap (λ us. c.attrs ∷ us) (stretches_out cs)

    -- ---- how many cells, and how many runs
    total_join : (a : A) (rs : List (Run A)) → total (join k a rs) ≡ 1 + total rs
    total_join a [] = refl
    total_join a (r ∷ rs) = grind arith

    pub total_stretches : (cs : List (Shown A)) → total (stretches k cs) ≡ length cs
    total_stretches [] = refl
    total_stretches (c ∷ cs) = let e = total_join c.attrs (stretches k cs) in let d = total_stretches cs in omega arith

    -- the first of the runs has the first cell's attributes
    joined_length : (a d : A) (rs : List (Run A)) → length (join k a (join k d rs)) ≡ cond (k.same a d) 0 1 + length (join k d rs)
    joined_length a d [] = grind arith
    joined_length a d (r ∷ rs) = grind arith

    pub runs_length : (cs : List (Shown A)) → runs_needed k cs ≡ length (stretches k cs)
    runs_length [] = refl
    runs_length (c ∷ []) = refl
    runs_length (c ∷ d ∷ cs) =
        let e = joined_length c.attrs d.attrs (stretches k cs) in
        let f = runs_length (d ∷ cs) in
        omega arith

  -- a run that is written back as it was
  pub written_back : (rs us : List (Run A)) (n : ℕ) (r : Run A) → r ≡ slice_index_or rs n r → us ≡ slice_set rs n r → us ≡ rs
  written_back rs us n r e d = d ∙ ap (slice_set rs n) e ∙ set-get_or rs n r

  pub total_part : (rs : List (Run A)) (n : ℕ) (r : Run A) → n < length rs → r ≡ slice_index_or rs n r → r.cells ≤ total rs
  total_part [] n r l e = absurd (omega arith)
  total_part (s ∷ rs) zero r l e = let d : r.cells ≡ s.cells = ap (λ (u : Run A). u.cells) e in omega arith
  total_part (s ∷ rs) (suc n) r l e = let d = total_part rs n r (omega arith) e in omega arith

  -- how code shrinks: the last run loses a cell, or goes
  pub shrink_more : (rs : List (Run A)) (n : ℕ) (r : Run A) → length rs ≡ suc n → r ≡ slice_index_or rs n r → 1 < r.cells
      → slice_set rs n (run (r.cells - 1) r.attrs) ≡ shrink rs
  shrink_more [] n r l e h = absurd (omega arith)
  shrink_more (s ∷ []) zero r l e h = grind (arith, nat_tests)
  shrink_more (s ∷ []) (suc n) r l e h = absurd (omega arith)
  shrink_more (s ∷ t ∷ ts) zero r l e h = absurd (omega arith)
  shrink_more (s ∷ t ∷ ts) (suc n) r l e h = ap (λ u. s ∷ u) (shrink_more (t ∷ ts) n r (omega arith) e h)

  pub shrink_last : (rs : List (Run A)) (n : ℕ) (r : Run A) → length rs ≡ suc n → r ≡ slice_index_or rs n r → r.cells ≤ 1 → take n rs ≡ shrink rs
  shrink_last [] n r l e h = absurd (omega arith)
  shrink_last (s ∷ []) zero r l e h = grind (arith, nat_tests)
  shrink_last (s ∷ []) (suc n) r l e h = absurd (omega arith)
  shrink_last (s ∷ t ∷ ts) zero r l e h = absurd (omega arith)
  shrink_last (s ∷ t ∷ ts) (suc n) r l e h = ap (λ u. s ∷ u) (shrink_last (t ∷ ts) n r (omega arith) e h)

  pub shrink_none : (rs : List (Run A)) → length rs ≡ 0 → [] ≡ shrink rs
  shrink_none [] l = refl
  shrink_none (r ∷ rs) l = absurd (omega arith)
