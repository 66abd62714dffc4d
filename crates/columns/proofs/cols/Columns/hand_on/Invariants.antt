use Rattle.std.proofs.Common.{◌≡◌, ◌++◌, drop}
use Rattle.rows.specs.Columns.{shown}
use Rattle.columns.specs.Cols.{columns}
use Rattle.columns.specs.Becoming.{held}
use Rattle.columns.proofs.cols.Columns.hand_on.Given as goal

abbrev pub invariant-loop-c : goal.invariant-loop-c
invariant-loop-c g l = record {
  row : (g.R.Store.row l.to).cells ++ shown (columns l.c-iterator.columns.now) ≡ (g.R.Store.row l.initial.to).cells ++ shown (drop l.idx (held l.self));
  change : g.R.Store.number l.to ≡ g.R.Store.number l.initial.to;
  room : (g.R.Store.row l.to).sizes ≡ (g.R.Store.row l.initial.to).sizes;
}
