use Rattle.splitters.specs.Pieces.{parts}
use Rattle.gauge.proofs.Counted.{Counts}
use Rattle.gauge.proofs.measuring.measure.Given as goal

abbrev pub invariant-loop-piece : goal.invariant-loop-piece
invariant-loop-piece g l =
    Counts g.P.Splitter.splits l.measure (parts g.P.Splitter.splits.first l.piece-iterator.at l.piece-iterator.rest.now) (parts g.P.Splitter.splits.first 0 l.text)
