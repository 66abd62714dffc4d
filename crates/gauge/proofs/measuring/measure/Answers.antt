use Rattle.std.proofs.Common.{◌^◌, ◌<◌, length, arith, rules}
use Rattle.splitters.specs.Pieces.{parts}
use Rattle.gauge.proofs.Counted.{room, parts_length}
use Rattle.gauge.proofs.measuring.measure.Goals as goal

pub with_piece-requires : goal.with_piece-requires
with_piece-requires g c =
    let p = g.P.Splitter.splits in
    let all = parts p.first 0 c.args.text.now in
    let l = parts_length p.first 0 c.args.text.now in
    let h : length all < 2 ^ 64 = search rules in
    room p c.loop-piece.measure (parts p.first c.loop-piece.piece-iterator.at c.loop-piece.piece-iterator.rest.now) all c.loop-piece.invariant
    (omega (arith, (c.in-Some.ensures.goes.on tt).2)) h
