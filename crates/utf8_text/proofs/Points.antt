-- What a read code point says of the text.
use Rattle.std.proofs.Common.{◌≡◌, ℕ, suc, ◌+◌, ◌-◌, ◌≤◌, true, false, cond, List, [], ◌∷◌, ◌++◌, length, drop, take, Some, None, sym, refl, ap, ◌∙◌, arith}
use Rattle.std.proofs.lemmas.List.{length-append, append-nil, drop_at, take_rest}
use Rattle.std.proofs.lemmas.List.Recursion.{is_sum_by}
use Rattle.utf8_text.specs.Reading.{first_point, points}
use Rattle.utf8_text.specs.Pieces.{mark, leading_marks, attached, size, sizes}
use Rattle.std.specs.List.{take_while, prefix_len, sum_by}
use Rattle.utf8_text.proofs.Cuts.{attached_within}
use Rattle.utf8_text.proofs.Grammar.{view, points_more, points_append, points_sizes, split}

-- the rest is written as that of a slice
pub read_on : (t : List ℕ) (c n : ℕ) → Some (c, n) ≡ first_point t → points t ≡ c ∷ points (take (length t - n) (drop n t))
read_on t c n e =
    let v = view t (c, n) (sym e) in
    let m = points_more v.char v.behind in
    let d = drop_at v.bytes v.behind n (sym v.number) in
    let r : points t ≡ c ∷ points (drop n t) = cc in
    rw take_rest r

-- ---- the code points that are read take no more than the text
points_none : (t : List ℕ) → first_point t ≡ None → points t ≡ []
points_none [] e = refl
points_none (b ∷ t) e = cc

pub points_fit : (t : List ℕ) → sizes (points t) ≤ length t
points_fit t =
    let s = split t in
    let p : points t ≡ points s.front = ap points s.parts ∙ (points_append s.chars s.back ∙ (ap (λ x. points s.front ++ x) (points_none s.back s.stop) ∙ append-nil (points s.front))) in
    omega (arith, ap sizes p, points_sizes s.chars, ap length s.parts, length-append s.front s.back)

-- ---- marks as a chain takes them
sizes_summed : (cs : List ℕ) → sizes cs ≡ sum_by size cs
sizes_summed cs = is_sum_by sizes size refl (λ _ _. refl) cs

marks_taken : (cs : List ℕ) → take_while mark cs ≡ leading_marks cs
marks_taken [] = refl
marks_taken (c ∷ cs) =
    elim (mark c) as (λ b. take (cond b (1 + prefix_len mark cs) 0) (c ∷ cs) ≡ cond b (c ∷ leading_marks cs) []) [
      | true ↦ let n : 1 + prefix_len mark cs ≡ suc (prefix_len mark cs) = omega arith in rw n (ap (λ x. c ∷ x) (marks_taken cs))
      | false ↦ refl
    ]

pub piece_fits : (t : List ℕ) (c : ℕ) (cs : List ℕ) → points t ≡ c ∷ cs → size c + sizes (attached c cs) ≤ length t
piece_fits t c cs e = omega (arith, ap sizes e, attached_within c cs [], points_fit t)

pub marks_summed : (cs : List ℕ) → sum_by size (take_while mark cs) ≡ sizes (leading_marks cs)
marks_summed cs = sym (sizes_summed (take_while mark cs)) ∙ ap sizes (marks_taken cs)
