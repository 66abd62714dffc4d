use Rattle.splitters.specs.Pieces.{parts}
use Rattle.splitters.specs.Reading.{part_of}
use Rattle.splitters.proofs.Cutting.{next_alone}
use Rattle.columns.proofs.cols.Columns.push_text.Goals as goal

pub piece_cell-requires-clause-alone : goal.piece_cell-requires-clause-alone
piece_cell-requires-clause-alone g c =
    let p = g.P.Splitter.splits in
    let s = c.loop-piece.piece-iterator in
    let t = c.next.new.self in
    rw c.bytes.ensures (next_alone p s.at s.rest.now (part_of c.in-Some.piece) (parts p.first t.at t.rest.now) c.loop-piece.invariant.good c.in-Some.ensures.steps.0)
