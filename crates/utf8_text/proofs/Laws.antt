-- The laws that pieces of UTF-8 keep.
use Rattle.std.proofs.Common.{◌≡◌, ℕ, ◌<◌, ◌≤◌, min, true, List, [], ◌∷◌, ◌++◌, length, get_or, take, drop, sym, refl, ap, ◌∙◌, subst, arith}
use Rattle.std.specs.List.{All}
use Rattle.std.proofs.lemmas.List.{append_assoc, take_at, drop_at, get_or_append_left}
use Rattle.std.proofs.lemmas.List.Elements.{All-nil, All-append, All-from_recursion}
use Rattle.std.proofs.lemmas.Bool.Decides.{nat_tests}
use Rattle.utf8_text.specs.Rfc3629.{Utf8Char, Utf8Octets}
use Rattle.utf8_text.specs.Rfc3629.Utf8Octets.{none, more}
use Rattle.utf8_text.specs.Reading.{points, good}
use Rattle.utf8_text.specs.Pieces.{first_piece, sizes, first_len}
use Rattle.utf8_text.proofs.Grammar.{by_number, value, points_more, good_append, points_append, points_sizes, derived, derived_good}
use Rattle.utf8_text.proofs.Cuts.{piece_within, piece_some, piece_front, Nonzero, piece_nonzero}

pub joined : (s t : List ℕ) → good s ≡ true → good t ≡ true → good (s ++ t) ≡ true
joined s t g h = good_append (derived s g) t ∙ h

pub within : (s t : List ℕ) → good s ≡ true → first_len s ≡ min (length s) (first_len (s ++ t))
within s t g =
    let d = derived s g in
    let p = ap (λ x. sizes (first_piece x)) (points_append d t) in
    let l = points_sizes d in
    let w = piece_within (points s) (points t) in
    omega arith

pub some : (t : List ℕ) → good t ≡ true → 0 < length t → 0 < first_len t
some t g h = piece_some (points t) (omega (arith, points_sizes (derived t g)))

-- ---- texts cut behind some of their code points
record Cut (t cs : List ℕ) : Type 0 where
  front : List ℕ
  back : List ℕ
  parts : t ≡ front ++ back
  chars : Utf8Octets front
  behind : Utf8Octets back
  are : points front ≡ cs

cut : {t : List ℕ} → Utf8Octets t → (cs ds : List ℕ) → points t ≡ cs ++ ds → Cut t cs
cut {t} o [] ds e = record { front = []; back = t; parts = refl; chars = none; behind = o; are = refl }
cut none (c ∷ cs) ds e = cc
cut (more {s = s} {t = u} ch o) (c ∷ cs) ds e =
    let f : value s ∷ points u ≡ c ∷ (cs ++ ds) = sym (points_more ch u) ∙ e in
    let r : points u ≡ cs ++ ds = cc in
    let i = cut o cs ds r in
    let m = points_more ch i.front in
    record {
      front = s ++ i.front;
      back = i.back;
      parts = ap (λ x. s ++ x) i.parts ∙ sym (append_assoc s i.front i.back);
      chars = more ch i.chars;
      behind = i.behind;
      are = cc;
    }

-- the first piece and what is left of a good text
first_cut : (t : List ℕ) → good t ≡ true → Cut t (first_piece (points t))
first_cut t g = cut (derived t g) (first_piece (points t)) _ (piece_front (points t))

front_len : (t : List ℕ) (c : Cut t (first_piece (points t))) → length c.front ≡ first_len t
front_len t c = sym (points_sizes c.chars) ∙ ap sizes c.are

pub piece : (t : List ℕ) → good t ≡ true → good (take (first_len t) t) ≡ true
piece t g =
    let c = first_cut t g in
    ap (λ x. good (take (first_len t) x)) c.parts ∙ (ap good (take_at c.front c.back _ (front_len t c)) ∙ derived_good c.chars)

pub rest : (t : List ℕ) → good t ≡ true → good (drop (first_len t) t) ≡ true
rest t g =
    let c = first_cut t g in
    ap (λ x. good (drop (first_len t) x)) c.parts ∙ (ap good (drop_at c.front c.back _ (front_len t c)) ∙ derived_good c.behind)

-- ---- no zero byte in a longer piece
bytes_nonzero : {s : List ℕ} (ch : Utf8Char s) → 0 < value s → Nonzero s
bytes_nonzero ch =
    by_number ch (λ s. 0 < value s → Nonzero s) (λ a h v. (v, tt)) (λ a b h v. grind (arith, nat_tests))
    (λ a b c h v. grind (arith, nat_tests)) (λ a b c d h v. grind (arith, nat_tests))

text_nonzero : {s : List ℕ} → Utf8Octets s → Nonzero (points s) → All (λ b. 0 < b) s
text_nonzero none n = All-nil (λ b. 0 < b)
text_nonzero (more {s = s} {t = u} ch o) n =
    let m : Nonzero (value s ∷ points u) = subst Nonzero (points_more ch u) n in
    All-append (λ b. 0 < b) s u (All-from_recursion (λ b. 0 < b) s (bytes_nonzero ch m.0)) (text_nonzero o m.1)

pub nonzero : (t : List ℕ) → good t ≡ true → 2 ≤ first_len t → (k : ℕ) → k < first_len t → 0 < get_or t k 0
nonzero t g h k l =
    let c = first_cut t g in
    let n = text_nonzero c.chars (subst Nonzero (sym c.are) (piece_nonzero (points t) h)) in
    let m : k < length c.front = omega (arith, front_len t c) in
    omega (arith, ap (λ x. get_or x k 0) c.parts, get_or_append_left c.front c.back 0 k m, n k 0 m)
