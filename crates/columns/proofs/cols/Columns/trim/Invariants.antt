use Rattle.std.proofs.Common.{◌≡◌, length}
use Rattle.rows.specs.Columns.{Whole, shown}
use Rattle.rows.specs.Trims.{up_to_last, not_plain}
use Rattle.columns.specs.Becoming.{held}
use Rattle.columns.proofs.cols.Columns.trim.Given as goal

abbrev pub invariant-loop-last : goal.invariant-loop-last
invariant-loop-last g l = record {
  whole : Whole (held l.self);
  kept : up_to_last (not_plain g.A.Attributes.kind) (shown (held l.self)) ≡ up_to_last (not_plain g.A.Attributes.kind) (shown (held l.initial.self));
  limit : l.self.limit ≡ l.initial.self.limit;
  memory : l.self.cells.cap ≡ l.initial.self.cells.cap;
}

abbrev pub decreases-loop-last : goal.decreases-loop-last
decreases-loop-last g l = length (held l.self)
