use Rattle.std.proofs.Common.{◌≡◌, ◌+◌, ◌≤◌, ◌++◌, length}
use Rattle.rows.specs.Lists.{span}
use Rattle.rows.specs.Spread.{spread}
use Rattle.columns.specs.Becoming.{held}
use Rattle.columns.proofs.cols.Columns.push_cells.Given as goal

abbrev pub invariant-loop-c : goal.invariant-loop-c
invariant-loop-c g l = record {
  all : held l.self ++ spread (g.T.Store.left l.c-iterator.store.now l.c-iterator.place) ≡ held l.initial.self ++ spread (g.T.Store.row l.other).cells;
  fits : length (held l.self) + span (g.T.Store.left l.c-iterator.store.now l.c-iterator.place) ≤ l.self.limit;
  limit : l.self.limit ≡ l.initial.self.limit;
  memory : l.self.cells.cap ≡ l.initial.self.cells.cap;
}
