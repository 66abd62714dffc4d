-- A text and its first line.
use Rattle.std.proofs.Common.{◌≡◌, ℕ, suc, ◌+◌, ◌<◌, Bool, true, false, cond, not, eqb, List, [], ◌∷◌, length, take, drop, refl, ap, ◌∙◌, arith}
use Rattle.std.specs.List.{position_or_len, before_first, after_first}
use Rattle.gauge.specs.Lines.{grown, lines_of}

abbrev ends : ℕ → Bool
ends b = eqb b 0x0a

alone : (x : Bool) (b : ℕ) → cond x ([] ∷ []) (grown b []) ≡ take (cond (not x) 1 0) (b ∷ []) ∷ lines_of (drop (cond (not x) 1 0 + 1) (b ∷ []))
alone true b = refl
alone false b = refl

first_by : (x : Bool) (b n : ℕ) (t : List ℕ) → lines_of t ≡ take n t ∷ lines_of (drop (n + 1) t)
    → cond x ([] ∷ lines_of t) (grown b (lines_of t)) ≡ take (cond (not x) (1 + n) 0) (b ∷ t) ∷ lines_of (drop (cond (not x) (1 + n) 0 + 1) (b ∷ t))
first_by true b n t e = refl
first_by false b n t e =
    let k : suc n ≡ 1 + n = omega arith in
    let l : suc (n + 1) ≡ 1 + n + 1 = omega arith in
    ap (grown b) e ∙ ap (λ (i : ℕ). take i (b ∷ t) ∷ lines_of (drop (n + 1) t)) k ∙ ap (λ (i : ℕ). take (1 + n) (b ∷ t) ∷ lines_of (drop i (b ∷ t))) l

pub lines_more : (t : List ℕ) → 0 < length t → lines_of t ≡ before_first ends t ∷ lines_of (after_first ends t)
lines_more [] h = absurd (omega arith)
lines_more (b ∷ []) h = alone (ends b) b
lines_more (b ∷ (d ∷ t)) h = first_by (ends b) b (position_or_len ends (d ∷ t)) (d ∷ t) (lines_more (d ∷ t) (omega arith))
