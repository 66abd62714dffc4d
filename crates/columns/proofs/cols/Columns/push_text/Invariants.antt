use Rattle.std.proofs.Common.{◌≡◌, ◌+◌, ◌≤◌, true, false, ◌++◌, map, length}
use Rattle.splitters.specs.Pieces.{parts}
use Rattle.rows.specs.Lists.{span}
use Rattle.rows.specs.Spread.{spread}
use Rattle.rows.specs.Givens.{cell_of, cells_of, any_long}
use Rattle.columns.specs.Becoming.{held}
use Rattle.columns.proofs.cols.Columns.push_text.Given as goal

abbrev pub invariant-loop-piece : goal.invariant-loop-piece
invariant-loop-piece g l =
    let p = g.P.Splitter.splits in
    let ps = map (λ x. x.bytes) (parts p.first l.piece-iterator.at l.piece-iterator.rest.now) in
    record {
      good : p.good l.piece-iterator.rest.now ≡ true;
      short : any_long ps ≡ false;
      all : held l.self ++ spread (map (cell_of p l.attrs) ps) ≡ held l.initial.self ++ spread (cells_of p l.attrs l.fn.text.rest.now);
      fits : length (held l.self) + span (map (cell_of p l.attrs) ps) ≤ l.self.limit;
      limit : l.self.limit ≡ l.initial.self.limit;
      memory : l.self.cells.cap ≡ l.initial.self.cells.cap;
    }
