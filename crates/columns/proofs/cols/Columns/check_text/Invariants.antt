use Rattle.std.proofs.Common.{◌≡◌, ◌+◌, ◌≤◌, min, map}
use Rattle.splitters.specs.Pieces.{pieces, parts}
use Rattle.rows.specs.Lists.{span}
use Rattle.rows.specs.Givens.{cell_of, cells_of, any_long}
use Rattle.columns.proofs.cols.Columns.check_text.Given as goal

abbrev pub invariant-loop-piece : goal.invariant-loop-piece
invariant-loop-piece g l =
    let p = g.P.Splitter.splits in
    let ps = map (λ x. x.bytes) (parts p.first l.piece-iterator.at l.piece-iterator.rest.now) in
    record {
      long : any_long ps ≡ any_long (pieces p.first l.fn.text.rest.now);
      used : min (l.used + span (map (cell_of p l.attrs) ps)) (l.self.limit + 1) ≡ min (span (cells_of p l.attrs l.fn.text.rest.now)) (l.self.limit + 1);
      bound : l.used ≤ l.self.limit + 2;
    }
