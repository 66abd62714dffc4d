use Rattle.std.proofs.Common.{◌≡◌, ◌++◌, None}
use Rattle.rows.specs.Packing.{compaction}
use Rattle.boards.proofs.packing.pack.Given as goal

-- the cells that were taken and those that are left are the row's, and none of the taken ones was refused
abbrev pub invariant-loop-cell : goal.invariant-loop-cell
invariant-loop-cell g l = record {
  all : (g.T.Store.row l.store).cells ++ g.S.Store.left l.cell-iterator.store.now l.cell-iterator.place ≡ (g.S.Store.row l.row).cells;
  none : compaction g.S.Split.Splitter.splits (g.T.Store.rule (g.T.Store.row l.fn.store).sizes) (g.T.Store.row l.store).cells ≡ None;
  change : g.T.Store.number l.store ≡ g.T.Store.number l.fn.store;
  sizes : (g.T.Store.row l.store).sizes ≡ (g.T.Store.row l.fn.store).sizes;
}
