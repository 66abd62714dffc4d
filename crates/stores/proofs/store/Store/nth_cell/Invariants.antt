use Rattle.std.proofs.Common.{◌≡◌, ◌+◌, ◌-◌, map}
use Rattle.std.specs.List.{slice_get}
use Rattle.rows.specs.Lists.{span}
use Rattle.rows.specs.Spread.{further, placed}
use Rattle.stores.proofs.store.Store.nth_cell.Given as goal

-- the cells that are left, from this column on, have the wanted one at what is left of the count
abbrev pub invariant-loop : goal.invariant-loop
invariant-loop g l = record {
  columns : l.column + span (g.Self.Store.left l.self l.at) ≡ span (g.Self.Store.row l.self).cells;
  wanted : slice_get (map (further l.column) (placed (g.Self.Store.left l.self l.at))) (l.n - l.counter) ≡ slice_get (placed (g.Self.Store.row l.self).cells) l.n;
}
