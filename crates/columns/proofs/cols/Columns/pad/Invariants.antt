use Rattle.std.proofs.Common.{◌≡◌, ◌≤◌, max, length}
use Rattle.rows.specs.Columns.{padded}
use Rattle.columns.specs.Becoming.{held, Becomes}
use Rattle.columns.proofs.cols.Columns.pad.Given as goal

abbrev pub invariant-loop : goal.invariant-loop
invariant-loop g l = record {
  so_far : Becomes l.initial.self l.self (padded g.A.Attributes.kind l.counter (held l.initial.self));
  reaches : length (held l.self) ≡ l.counter;
  within : l.counter ≤ max l.n (length (held l.initial.self));
}
