-- The code points that are read are those whose encoding is the text.
use Rattle.std.proofs.Common.{◌≡◌, ℕ, true, List, ◌++◌, refl, ap, ◌∙◌, arith}
use lib.Utf8.{scalar, scalars, encode, encodes}
use Rattle.std.proofs.lemmas.Bool.{and_from}
use Rattle.std.proofs.lemmas.Bool.Decides.{nat_tests}
use Rattle.utf8_text.specs.Rfc3629.{Utf8Char, Utf8Octets}
use Rattle.utf8_text.specs.Rfc3629.Utf8Octets.{none, more}
use Rattle.utf8_text.specs.Reading.{points}
use Rattle.utf8_text.specs.Meaning.{Meaning}
use Rattle.utf8_text.proofs.Grammar.{by_number, value, points_more, derived, exact}

scalar_char : {s : List ℕ} (ch : Utf8Char s) → scalar (value s) ≡ true
scalar_char ch =
    by_number ch (λ s. scalar (value s) ≡ true) (λ a h. grind (arith, nat_tests)) (λ a b h. grind (arith, nat_tests))
    (λ a b c h. grind (arith, nat_tests)) (λ a b c d h. grind (arith, nat_tests))

encode_char : {s : List ℕ} (ch : Utf8Char s) → encode (value s) ≡ s
unfolding encode
encode_char ch =
    by_number ch (λ s. encode (value s) ≡ s) (λ a h. grind (arith, nat_tests)) (λ a b h. grind (arith, nat_tests))
    (λ a b c h. grind (arith, nat_tests)) (λ a b c d h. grind (arith, nat_tests))

-- ---- of a text
encode_points : {t : List ℕ} → Utf8Octets t → (scalars (points t) ≡ true) × (encodes (points t) ≡ t)
encode_points none = (refl, refl)
encode_points (more {s = s} {t = u} ch o) =
    let i = encode_points o in
    let p = points_more ch u in (
      ap scalars p ∙ and_from (scalar (value s)) (scalars (points u)) (scalar_char ch) i.0,
      ap encodes p ∙ (ap (λ x. x ++ encodes (points u)) (encode_char ch) ∙ ap (λ x. s ++ x) i.1),
    )

pub meant : (t : List ℕ) → Meaning t
meant t =
    record {
      grammar = exact t;
      scalar = λ g. (encode_points (derived t g)).0;
      encoded = λ g. (encode_points (derived t g)).1;
    }
