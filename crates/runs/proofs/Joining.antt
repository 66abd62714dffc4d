-- The pieces of a text with one more piece behind it, and without its last one.
use Rattle.std.specs.Prelude.{◌≡◌, ℕ, zero, suc, ◌-◌, ◌<◌, ◌≤◌, min, Bool, true, false, List, [], ◌∷◌, ◌++◌, length, take, drop, nat_lt, refl}
use Rattle.std.proofs.Common.{sym, ap, ◌∙◌, subst, ⊎_elim, append-nil, arith}
use Rattle.std.proofs.lemmas.List.{length-append, length-drop, length-take-le, drop_all, take_all, take-append-le, drop-append-le, take_at, drop_at, take-append-drop, append_assoc}
use Rattle.std.proofs.lemmas.Bool.{cases_lt, ltb-false}
use Rattle.splitters.specs.Splits.{Splits}
use Rattle.splitters.specs.Pieces.{cut, pieces, flat}
use Rattle.splitters.proofs.Cutting.{cut_fuel, flat_cut}
use Rattle.rows.specs.Packing.{without_last}
use Rattle.runs.specs.Dressing.{last_piece}

-- the first piece of the last one and a text joined is longer than the last one
abbrev pub fuses_last : (List ℕ → ℕ) → List (List ℕ) → List ℕ → Bool
fuses_last f [] q = false
fuses_last f (p ∷ []) q = nat_lt (length p) (f (p ++ q))
fuses_last f (p ∷ (r ∷ ps)) q = fuses_last f (r ∷ ps) q

module _ (f : List ℕ → ℕ) where
  nil : (n : ℕ) → cut f n [] ≡ []
  nil zero = refl
  nil (suc n) = refl

  skip : (p : List ℕ) (ps : List (List ℕ)) (q : List ℕ) → 0 < length ps → fuses_last f (p ∷ ps) q ≡ false → fuses_last f ps q ≡ false
  skip p [] q h a = absurd (omega arith)
  skip p (r ∷ ps) q h a = a

  pub filled : (m : ℕ) (d : List ℕ) → 0 < m → 0 < length d → 0 < length (cut f m d)
  filled zero d l h = absurd (omega arith)
  filled (suc m) [] l h = absurd (omega arith)
  filled (suc m) (b ∷ d) l h = omega arith

  -- one piece alone
  single : (n : ℕ) (q : List ℕ) → 0 < n → 0 < length q → f q ≡ length q → cut f n q ≡ q ∷ []
  single zero q l p e = absurd (omega arith)
  single (suc n) [] l p e = absurd (omega arith)
  single (suc n) (b ∷ t) l p e =
      let k : f (b ∷ t) - 1 ≡ length t = omega arith in
      rw (k, take_all (length t) t (omega arith), drop_all (length t) t (omega arith), nil n) refl

back : (n b : ℕ) (t : List ℕ) → 0 < n → drop n (b ∷ t) ≡ drop (n - 1) t
back zero b t l = absurd (omega arith)
back (suc n) b t l = grind arith

front : (n b : ℕ) (t : List ℕ) → 0 < n → take n (b ∷ t) ≡ b ∷ take (n - 1) t
front zero b t l = absurd (omega arith)
front (suc n) b t l = grind arith

module _ (p : Splits) where
  joining : (m n : ℕ) (t q : List ℕ) → length t ≤ m → length t < n → p.good t ≡ true → p.good q ≡ true → 0 < length q → p.first q ≡ length q
      → fuses_last p.first (cut p.first m t) q ≡ false → cut p.first n (t ++ q) ≡ cut p.first m t ++ (q ∷ [])
  joining zero n [] q h k gt gq lq fq a = single p.first n q k lq fq
  joining zero n (b ∷ t) q h k gt gq lq fq a = absurd (omega arith)
  joining (suc m) n [] q h k gt gq lq fq a = single p.first n q k lq fq
  joining (suc m) zero (b ∷ t) q h k gt gq lq fq a = absurd (omega arith)
  joining (suc m) (suc n) (b ∷ t) q h k gt gq lq fq a =
      let f0 : 0 < p.first (b ∷ t) = p.some (b ∷ t) gt (omega arith) in
      let st : p.first (b ∷ t) ≡ min (length (b ∷ t)) (p.first (b ∷ (t ++ q))) = p.within (b ∷ t) q gt gq (omega arith) in
      let j : ℕ = p.first (b ∷ t) - 1 in
      let jl : j ≤ length t = omega arith in
      let ld : length (drop j t) ≡ length t - j = length-drop j t in
      ⊎_elim
      (λ (less : p.first (b ∷ t) < length (b ∷ t)).
      let fe : p.first (b ∷ (t ++ q)) - 1 ≡ j = omega arith in
      let a2 : fuses_last p.first (cut p.first m (drop j t)) q ≡ false = skip p.first (b ∷ take j t) (cut p.first m (drop j t)) q (filled p.first m (drop j t) (omega arith) (omega arith)) a in
      let gr : p.good (drop j t) ≡ true = ap p.good (sym (back (p.first (b ∷ t)) b t f0)) ∙ p.rest (b ∷ t) gt in
      let r = joining m n (drop j t) q (omega arith) (omega arith) gr gq lq fq a2 in
      rw (fe, take-append-le j t q jl, drop-append-le j t q jl, r) refl)
      (λ (whole : length (b ∷ t) ≤ p.first (b ∷ t)).
      let je : j ≡ length t = omega arith in
      let tk : take j t ≡ t = take_all j t (omega arith) in
      let z : cut p.first m (drop j t) ≡ [] = ap (cut p.first m) (drop_all j t (omega arith)) ∙ nil p.first m in
      let a3 : p.first (b ∷ (t ++ q)) ≤ length (b ∷ t) = ltb-false (length (b ∷ t)) (p.first (b ∷ (t ++ q))) (rw (z, tk) at a) in
      let fe : p.first (b ∷ (t ++ q)) - 1 ≡ length t = omega arith in
      rw (z, tk, fe, take_at t q (length t) refl, drop_at t q (length t) refl, single p.first n q (omega arith) lq fq) refl)
      (cases_lt (p.first (b ∷ t)) (length (b ∷ t)))

  -- a piece that does not fuse with the last one is one more
  pub joined_pieces : (t q : List ℕ) → p.good t ≡ true → p.good q ≡ true → 0 < length q → p.first q ≡ length q
      → fuses_last p.first (pieces p.first t) q ≡ false → pieces p.first (t ++ q) ≡ pieces p.first t ++ (q ∷ [])
  joined_pieces t q gt gq lq fq a = joining (length t) (length (t ++ q)) t q (omega arith) (simp length-append (omega arith)) gt gq lq fq a

  -- pieces but for the last: joined they are good, and fall into the same pieces again; and the last is good
  pub record Rest (ps : List (List ℕ)) : Type 0 where
    pub good : p.good (flat (without_last ps)) ≡ true
    pub split : pieces p.first (flat (without_last ps)) ≡ without_last ps
    pub last : p.good (last_piece ps) ≡ true
    pub whole : flat ps ≡ flat (without_last ps) ++ last_piece ps

  -- a piece in front of others that is the first of all
  in_front : (q : List ℕ) (ps : List (List ℕ)) → 0 < length ps → p.good q ≡ true → 0 < length q → length q ≡ p.first (q ++ flat ps) → Rest ps → Rest (q ∷ ps)
  in_front q [] l g n f r = absurd (omega arith)
  in_front q (s ∷ ps) l g n f r =
      let u : List ℕ = flat (without_last (s ∷ ps)) in
      let z : List ℕ = last_piece (s ∷ ps) in
      let gu : p.good (q ++ u) ≡ true = p.joined q u g r.good in
      let la = length-append q u in
      let w : (q ++ u) ++ z ≡ q ++ flat (s ∷ ps) = append_assoc q u z ∙ ap (λ v. q ++ v) (sym r.whole) in
      let fw : p.first (q ++ u) ≡ min (length (q ++ u)) (p.first ((q ++ u) ++ z)) = p.within (q ++ u) z gu r.last (omega arith) in
      let fe : p.first ((q ++ u) ++ z) ≡ length q = ap p.first w ∙ sym f in
      let fq : p.first (q ++ u) ≡ length q = omega arith in
      record {
        good = gu;
        split = again q u n fq ∙ ap (λ us. q ∷ us) r.split;
        last = r.last;
        whole = sym w;
      } where
        again : (q u : List ℕ) → 0 < length q → p.first (q ++ u) ≡ length q → pieces p.first (q ++ u) ≡ q ∷ pieces p.first u
        again [] u n e = absurd (omega arith)
        again (b ∷ q) u n e =
            let j : p.first (b ∷ (q ++ u)) - 1 ≡ length q = omega arith in
            let la = length-append q u in
            rw (j, take_at q u (length q) refl, drop_at q u (length q) refl, cut_fuel p.first (length (q ++ u)) (length u) u (omega arith) (omega arith)) refl

  rest_one : (q : List ℕ) → p.good q ≡ true → Rest (q ∷ [])
  rest_one q g = record { good = p.empty; split = refl; last = g; whole = append-nil q }

  rest_cut : (m : ℕ) (t : List ℕ) → length t ≤ m → p.good t ≡ true → Rest (cut p.first m t)
  rest_cut zero t l g = record { good = p.empty; split = refl; last = p.empty; whole = refl }
  rest_cut (suc m) [] l g = record { good = p.empty; split = refl; last = p.empty; whole = refl }
  rest_cut (suc m) (b ∷ t) l g =
      let f0 : 0 < p.first (b ∷ t) = p.some (b ∷ t) g (omega arith) in
      let st : p.first (b ∷ t) ≡ min (length (b ∷ t)) (p.first ((b ∷ t) ++ [])) = p.within (b ∷ t) [] g p.empty (omega arith) in
      let j : ℕ = p.first (b ∷ t) - 1 in
      let ld : length (drop j t) ≡ length t - j = length-drop j t in
      let lt : length (take j t) ≡ j = length-take-le j t (omega arith) in
      let gq : p.good (b ∷ take j t) ≡ true = ap p.good (sym (front (p.first (b ∷ t)) b t f0)) ∙ p.piece (b ∷ t) g in
      let gr : p.good (drop j t) ≡ true = ap p.good (sym (back (p.first (b ∷ t)) b t f0)) ∙ p.rest (b ∷ t) g in
      let w : flat (cut p.first m (drop j t)) ≡ drop j t = flat_cut p.first m (drop j t) (omega arith) in
      let e : (b ∷ take j t) ++ flat (cut p.first m (drop j t)) ≡ b ∷ t =
      ap (λ u. (b ∷ take j t) ++ u) w ∙ ap (λ u. b ∷ u) (take-append-drop j t) in
      ⊎_elim
      (λ (less : p.first (b ∷ t) < length (b ∷ t)).
      in_front (b ∷ take j t) (cut p.first m (drop j t)) (filled p.first m (drop j t) (omega arith) (omega arith)) gq (omega arith)
      (ap suc lt ∙ omega arith ∙ ap p.first (sym e)) (rest_cut m (drop j t) (omega arith) gr))
      (λ (whole : length (b ∷ t) ≤ p.first (b ∷ t)).
      let z : cut p.first m (drop j t) ≡ [] = ap (cut p.first m) (drop_all j t (omega arith)) ∙ nil p.first m in
      subst (λ us. Rest ((b ∷ take j t) ∷ us)) (sym z) (rest_one (b ∷ take j t) gq))
      (cases_lt (p.first (b ∷ t)) (length (b ∷ t)))

  pub rest_pieces : (t : List ℕ) → p.good t ≡ true → Rest (pieces p.first t)
  rest_pieces t g = rest_cut (length t) t (omega arith) g
