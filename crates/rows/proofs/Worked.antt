-- The worked samples.
use Rattle.std.proofs.Common.{refl}
use Rattle.cells.specs.Kinds.{Kind}
use Rattle.splitters.specs.Splits.{Splits}
use Rattle.rows.specs.Samples.{Reads, Samples}
use Rattle.rows.proofs.WrapSampled.{sampled}

pub samples : {K : Type 0} (k : Kind K) (p : Splits) → Reads p → Samples k p
samples k p h = record {
  length = refl;
  wide_at_1 = refl;
  set_at_2 = rw (h.good_x, h.one_x);
  set_at_1 = rw (h.good_x, h.one_x);
  erase_at_1 = refl;
  insert_at_2 = rw (h.good_x, h.one_x);
  resize_to_2 = refl;
  resize_to_3 = refl;
  prune_blanks = rw (k.reflexive k.blank);
  prune_a_wide = refl;
  length_a_wide = refl;
  fused = rw (h.good_e, h.one_e, h.good_mark, h.one_mark, h.one_both);
  wraps = sampled k;
}
