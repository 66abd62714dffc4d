-- What reading means, in the words of the standard.
-- Meaning  of a text: it is good exactly if the grammar derives it; and if it is good, its code points are Unicode scalar values,
--          and their encoding is the text
use Rattle.std.specs.Prelude.{◌≡◌, ℕ, true, List, Decides}
use Rattle.std.proofs.Math.Utf8.{scalars, encodes}
use Rattle.utf8_text.specs.Rfc3629.{Utf8Octets}
use Rattle.utf8_text.specs.Reading.{points, good}

pub record Meaning (t : List ℕ) : Type 0 where
  pub grammar : Decides (good t) (Utf8Octets t)
  pub scalar : good t ≡ true → scalars (points t) ≡ true
  pub encoded : good t ≡ true → encodes (points t) ≡ t
