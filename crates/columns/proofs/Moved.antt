-- A list moved one to the right, step by step.
use Rattle.std.proofs.Common.{◌≡◌, ℕ, zero, suc, ◌+◌, ◌-◌, ◌<◌, ◌≤◌, List, [], ◌∷◌, ◌++◌, length, get_or, take, drop, set, sym, refl, ap, ◌∙◌, add-one, arith}
use Rattle.std.proofs.lemmas.List.{append_assoc, append-nil, drop_all, drop_more, take_more, take_at, set_at, length-take-le, get_or_at, length-append, length-drop, drop-drop, take-take}

module _ {X : Type 0} (s was : List X) (c h : X) (i : ℕ) (l : i < length was) (e : s ≡ take i (c ∷ was) ++ drop i was) where
  front : length (take i (c ∷ was)) ≡ i
  front = length-take-le i (c ∷ was) (omega arith)

  split : s ≡ take i (c ∷ was) ++ get_or was i h ∷ drop (i + 1) was
  split = e ∙ ap (λ t. take i (c ∷ was) ++ t) (drop_more was i h l)

  pub shift_more : h ≡ get_or (c ∷ was) i h → set s i h ≡ take (i + 1) (c ∷ was) ++ drop (i + 1) was
  shift_more f =
      ap (λ t. set t i h) split
      ∙ set_at (take i (c ∷ was)) (get_or was i h) (drop (i + 1) was) h i front
      ∙ ap (λ t. take i (c ∷ was) ++ t ∷ drop (i + 1) was) f
      ∙ sym (append_assoc (take i (c ∷ was)) (get_or (c ∷ was) i h ∷ []) (drop (i + 1) was))
      ∙ ap (λ t. t ++ drop (i + 1) was) (sym (take_more (c ∷ was) i h (omega arith)))

  pub shift_old : h ≡ get_or s i h → h ≡ get_or (c ∷ was) (i + 1) h
  shift_old f =
      f ∙ ap (λ t. get_or t i h) split ∙ get_or_at (take i (c ∷ was)) (get_or was i h) (drop (i + 1) was) h i front
      ∙ sym (ap (λ t. get_or (c ∷ was) t h) (add-one i))

pub shift_all : {X : Type 0} (s was : List X) (c : X) (i : ℕ) → length was ≤ i → i ≤ length was → s ≡ take i (c ∷ was) ++ drop i was → s ≡ take (length was) (c ∷ was)
shift_all s was c i a b e =
    let n : i ≡ length was = omega arith in
    e ∙ ap (λ t. take i (c ∷ was) ++ t) (drop_all i was a) ∙ append-nil (take i (c ∷ was)) ∙ ap (λ t. take t (c ∷ was)) n

front_again : {X : Type 0} (k : ℕ) (c : X) (ys : List X) → take k (c ∷ take k ys) ≡ take k (c ∷ ys)
front_again zero c ys = refl
front_again (suc k) c ys = ap (λ t. c ∷ t) (take-take k (suc k) ys (omega arith))

-- what the whole holds once the middle from x up to m was moved one to the right
pub moved : {X : Type 0} (items d last : List X) (n x m : ℕ) (c : X) → length d ≡ n → d ≡ items → x ≤ m → m ≤ n
    → last ≡ take (length (take (m - x) (drop x d))) (c ∷ take (m - x) (drop x d))
    → take n ((take x d ++ (last ++ drop (m - x) (drop x d))) ++ drop (length (take x d ++ (last ++ drop (m - x) (drop x d)))) items)
    ≡ take x items ++ (take (m - x) (c ∷ drop x items) ++ drop m items)
moved items d last n x m c l e a b f =
    let k : length (take (m - x) (drop x d)) ≡ m - x = length-take-le (m - x) (drop x d) (simp length-drop (omega arith)) in
    let t : last ≡ take (m - x) (c ∷ drop x d) =
    f ∙ ap (λ j. take j (c ∷ take (m - x) (drop x d))) k ∙ front_again (m - x) c (drop x d) in
    let j : x + (m - x) ≡ m = omega arith in
    let u : drop (m - x) (drop x d) ≡ drop m d = drop-drop (m - x) x d ∙ ap (λ i. drop i d) j in
    let w : length last ≡ m - x = ap length t ∙ length-take-le (m - x) (c ∷ drop x d) (simp length-drop (omega arith)) in
    let p : length (take x d) ≡ x = length-take-le x d (omega arith) in
    let q : length (drop (m - x) (drop x d)) ≡ n - m = ap length u ∙ length-drop m d ∙ ap (λ i. i - m) l in
    let z : length (take x d ++ (last ++ drop (m - x) (drop x d))) ≡ n = simp length-append (omega arith) in
    take_at (take x d ++ (last ++ drop (m - x) (drop x d))) _ n z
    ∙ ap (λ v. take x d ++ (v ++ drop (m - x) (drop x d))) t
    ∙ ap (λ v. take x d ++ (take (m - x) (c ∷ drop x d) ++ v)) u
    ∙ ap (λ v. take x v ++ (take (m - x) (c ∷ drop x v) ++ drop m v)) e
