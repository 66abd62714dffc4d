-- The samples hold, by computation and by the laws of the kind.
use Rattle.std.proofs.Common.{true, refl}
use Rattle.cells.specs.Kinds.{Kind}
use Rattle.rows.specs.WrapSamples.{WrapSamples}

pub sampled : {A : Type 0} (k : Kind A) → WrapSamples k
sampled k = record {
  words = refl;
  flags = rw (k.unwrapped, k.reads k.blank true) refl;
  at_two = refl;
  at_one = refl;
  at_none = refl;
  fits = refl;
  spaces = refl;
  nothing = refl;
  no_row = refl;
  no_room = refl;
  given = refl;
  own = refl;
  zone_x = rw k.output refl;
  zone_wide = rw k.output refl;
  text = refl;
  hidden = refl;
  equal = rw (k.reflexive k.blank) refl;
}
