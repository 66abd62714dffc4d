-- A text cut into pieces.
use Rattle.std.proofs.Common.{◌≡◌, ℕ, zero, suc, ◌+◌, ◌-◌, ◌<◌, ◌≤◌, min, true, List, [], ◌∷◌, ◌++◌, map, length, take, drop, sym, refl, ap, subst, ◌∙◌, arith}
use Rattle.std.proofs.lemmas.List.{length-drop, length-take-le, take-append-drop, take_min, drop_min, drop-drop}
use Rattle.std.proofs.lemmas.List.Elements.{All-nil, All-cons}
use Rattle.std.specs.List.{All}
use Rattle.splitters.specs.Pieces.{Part, placed, parts, cut, pieces, flat, Firsts}
use Rattle.splitters.specs.Reading.{step, Alone, Read}
use Rattle.splitters.specs.Splits.{Splits}

module _ (f : List ℕ → ℕ) where
  cut_none : (n : ℕ) → cut f n [] ≡ []
  cut_none zero = refl
  cut_none (suc n) = refl

  -- how much fuel there is does not matter
  pub cut_fuel : (m n : ℕ) (t : List ℕ) → length t ≤ m → length t ≤ n → cut f m t ≡ cut f n t
  cut_fuel zero n [] l h = sym (cut_none n)
  cut_fuel (suc m) n [] l h = sym (cut_none n)
  cut_fuel zero n (b ∷ t) l h = absurd (omega arith)
  cut_fuel (suc m) zero (b ∷ t) l h = absurd (omega arith)
  cut_fuel (suc m) (suc n) (b ∷ t) l h =
      let k : ℕ = f (b ∷ t) - 1 in
      let e : length (drop k t) ≡ length t - k = length-drop k t in
      ap (λ ts. (b ∷ take k t) ∷ ts) (cut_fuel m n (drop k t) (omega arith) (omega arith))

  pub flat_cut : (n : ℕ) (t : List ℕ) → length t ≤ n → flat (cut f n t) ≡ t
  flat_cut zero [] l = refl
  flat_cut zero (b ∷ t) l = absurd (omega arith)
  flat_cut (suc n) [] l = refl
  flat_cut (suc n) (b ∷ t) l =
      let k : ℕ = f (b ∷ t) - 1 in
      let e : length (drop k t) ≡ length t - k = length-drop k t in
      ap (λ u. b ∷ (take k t ++ u)) (flat_cut n (drop k t) (omega arith)) ∙ ap (λ u. b ∷ u) (take-append-drop k t)

  pub flat_pieces : (t : List ℕ) → flat (pieces f t) ≡ t
  flat_pieces t = flat_cut (length t) t (omega arith)

  -- one more piece
  cons_step : (b : ℕ) (t : List ℕ) → step f (b ∷ t) ≡ suc (min (f (b ∷ t) - 1) (length t))
  cons_step b t = omega arith

  pub pieces_more : (t : List ℕ) → 0 < length t → pieces f t ≡ take (step f t) t ∷ pieces f (drop (step f t) t)
  pieces_more [] h = absurd (omega arith)
  pieces_more (b ∷ t) h =
      let k : ℕ = f (b ∷ t) - 1 in
      let e : length (drop k t) ≡ length t - k = length-drop k t in
      let s : step f (b ∷ t) ≡ suc (min k (length t)) = cons_step b t in
      let p : take (step f (b ∷ t)) (b ∷ t) ≡ b ∷ take k t = ap (λ (j : ℕ). take j (b ∷ t)) s ∙ ap (λ u. b ∷ u) (take_min k t) in
      let q : drop (step f (b ∷ t)) (b ∷ t) ≡ drop k t = ap (λ (j : ℕ). drop j (b ∷ t)) s ∙ drop_min k t in
      ap (λ ts. (b ∷ take k t) ∷ ts) (cut_fuel (length t) (length (drop k t)) (drop k t) (omega arith) (omega arith))
      ∙ ap (λ u. u ∷ pieces f (drop k t)) (sym p) ∙ ap (λ u. take (step f (b ∷ t)) (b ∷ t) ∷ pieces f u) (sym q)

  pub pieces_none : (t : List ℕ) → length t ≤ 0 → pieces f t ≡ []
  pieces_none [] h = refl
  pieces_none (b ∷ t) h = absurd (omega arith)

  -- the piece that begins at a place in a text, and what is left behind it
  pub pieces_at : (t : List ℕ) (at end : ℕ) → at < length t → end ≡ at + step f (drop at t)
      → pieces f (drop at t) ≡ take (end - at) (drop at t) ∷ pieces f (drop end t)
  pieces_at t at end h e =
      let d : length (drop at t) ≡ length t - at = length-drop at t in
      let s : step f (drop at t) ≡ end - at = omega arith in
      let j : at + (end - at) ≡ end = omega arith in
      pieces_more (drop at t) (omega arith)
      ∙ ap (λ (n : ℕ). take n (drop at t) ∷ pieces f (drop n (drop at t))) s
      ∙ ap (λ (u : List ℕ). take (end - at) (drop at t) ∷ pieces f u) (drop-drop (end - at) at t ∙ ap (λ (i : ℕ). drop i t) j)

-- the bytes of a text's parts are its pieces
placed_bytes : (at : ℕ) (ps : List (List ℕ)) → map (λ x. x.bytes) (placed at ps) ≡ ps
placed_bytes at [] = refl
placed_bytes at (q ∷ ps) = ap (λ qs. q ∷ qs) (placed_bytes (at + length q) ps)

pub parts_bytes : (f : List ℕ → ℕ) (at : ℕ) (t : List ℕ) → map (λ x. x.bytes) (parts f at t) ≡ pieces f t
parts_bytes f at t = placed_bytes at (pieces f t)

module _ (p : Splits) where
  first_bounds : (b : ℕ) (t : List ℕ) → p.good (b ∷ t) ≡ true → (0 < p.first (b ∷ t)) × (p.first (b ∷ t) ≤ suc (length t))
  first_bounds b t g =
      let s = p.some (b ∷ t) g (omega arith) in
      let w = p.within (b ∷ t) [] g p.empty (omega arith) in
      (s, omega arith)

  cut_firsts : (n : ℕ) (t : List ℕ) → length t ≤ n → p.good t ≡ true → Firsts p.first (cut p.first n t)
  cut_firsts zero t l g = tt
  cut_firsts (suc n) [] l g = tt
  cut_firsts (suc n) (b ∷ t) l g =
      let k : ℕ = p.first (b ∷ t) - 1 in
      let h = first_bounds b t g in
      let f : p.first (b ∷ t) ≡ suc k = omega arith in
      let d : length (drop k t) ≡ length t - k = length-drop k t in
      let m : length (take k t) ≡ k = length-take-le k t (omega arith) in
      let whole : take k t ++ flat (cut p.first n (drop k t)) ≡ t =
      ap (λ (u : List ℕ). take k t ++ u) (flat_cut p.first n (drop k t) (omega arith)) ∙ take-append-drop k t in
      let rest : p.good (drop k t) ≡ true = ap (λ (j : ℕ). p.good (drop j (b ∷ t))) (sym f) ∙ p.rest (b ∷ t) g in (
        ap suc m ∙ sym f ∙ ap (λ (u : List ℕ). p.first (b ∷ u)) (sym whole),
        cut_firsts n (drop k t) (omega arith) rest,
      )

  pub pieces_read : (t : List ℕ) → p.good t ≡ true → Read p.first t
  pieces_read t g = record { whole = flat_pieces p.first t; in_turn = cut_firsts (length t) t (omega arith) g }

  -- the first piece of a good text, alone
  first_alone : (t : List ℕ) → p.good t ≡ true → 0 < length t → Alone p (take (p.first t) t)
  first_alone t g h =
      let s = p.some t g h in
      let w = p.within t [] g p.empty h in
      let m : length (take (p.first t) t) ≡ p.first t = length-take-le (p.first t) t (omega arith) in
      let f = p.within (take (p.first t) t) (drop (p.first t) t) (p.piece t g) (p.rest t g) (omega arith) in
      let e : p.first (take (p.first t) t ++ drop (p.first t) t) ≡ p.first t = ap p.first (take-append-drop (p.first t) t) in
      record { good = p.piece t g; one = omega arith; some = omega arith }

  cut_alone : (n : ℕ) (t : List ℕ) → length t ≤ n → p.good t ≡ true → All (Alone p) (cut p.first n t)
  cut_alone zero t l g = All-nil (Alone p)
  cut_alone (suc n) [] l g = All-nil (Alone p)
  cut_alone (suc n) (b ∷ t) l g =
      let k : ℕ = p.first (b ∷ t) - 1 in
      let h = first_bounds b t g in
      let f : suc k ≡ p.first (b ∷ t) = omega arith in
      let d : length (drop k t) ≡ length t - k = length-drop k t in
      let e : b ∷ take k t ≡ take (p.first (b ∷ t)) (b ∷ t) = ap (λ (j : ℕ). take j (b ∷ t)) f in
      All-cons (Alone p) (b ∷ take k t) (cut p.first n (drop k t))
      (subst (Alone p) (sym e) (first_alone (b ∷ t) g (omega arith)))
      (cut_alone n (drop k t) (omega arith) (ap (λ (j : ℕ). p.good (drop j (b ∷ t))) f ∙ p.rest (b ∷ t) g))

  -- each piece of a good text, alone
  pub pieces_alone : (t : List ℕ) → p.good t ≡ true → All (Alone p) (pieces p.first t)
  pieces_alone t g = cut_alone (length t) t (omega arith) g

  -- the next piece of a reader, alone
  pub next_alone : (at : ℕ) (t : List ℕ) (x : Part) (xs : List Part) → p.good t ≡ true → parts p.first at t ≡ x ∷ xs → Alone p x.bytes
  next_alone at t x xs g e =
      let q : pieces p.first t ≡ x.bytes ∷ map (λ y. y.bytes) xs = sym (parts_bytes p.first at t) ∙ ap (map (λ y. y.bytes)) e in
      subst (All (Alone p)) q (pieces_alone t g) 0 x.bytes (omega arith)

  -- what is left behind the next piece is good
  next_good : (at i : ℕ) (t u : List ℕ) (x : Part) → p.good t ≡ true → parts p.first at t ≡ x ∷ parts p.first i u → p.good u ≡ true
  next_good at i [] u x g e = let n : ◌≡◌ {A = ℕ} 0 1 = cc in absurd (omega arith)
  next_good at i (b ∷ t) u x g e =
      let q : pieces p.first (b ∷ t) ≡ x.bytes ∷ pieces p.first u =
      sym (parts_bytes p.first at (b ∷ t)) ∙ ap (map (λ y. y.bytes)) e ∙ ap (λ ts. x.bytes ∷ ts) (parts_bytes p.first i u) in
      let n : ℕ = step p.first (b ∷ t) in
      let m = pieces_more p.first (b ∷ t) (omega arith) in
      let r : pieces p.first u ≡ pieces p.first (drop n (b ∷ t)) = cc in
      let v : u ≡ drop n (b ∷ t) = sym (flat_pieces p.first u) ∙ ap flat r ∙ flat_pieces p.first (drop n (b ∷ t)) in
      let h = first_bounds b t g in
      let s : n ≡ p.first (b ∷ t) = omega arith in
      ap p.good v ∙ ap (λ (j : ℕ). p.good (drop j (b ∷ t))) s ∙ p.rest (b ∷ t) g

  pub next_step : (at i : ℕ) (t u : List ℕ) (x : Part) → parts p.first at t ≡ x ∷ parts p.first i u
      → (parts p.first at t ≡ x ∷ parts p.first i u) × (p.good t ≡ true → p.good u ≡ true)
  next_step at i t u x e = (e, λ g. next_good at i t u x g e)
