use Rattle.std.proofs.Common.{sym, ◌∙◌, arith}
use Rattle.runs.proofs.Placing.{last_more}
use Rattle.runs.proofs.texts.last_start.Goals as goal

pub loop-at-preserved : goal.loop-at-preserved
loop-at-preserved g c =
    let e = c.piece_end-end.ensures.bound in
    (omega arith, sym (last_more g.P.Splitter.splits.first c.args.text.now c.loop-at.at c.piece_end-end.result (c.piece_end-end.ensures.pieces (omega arith)) (omega arith)) ∙ c.loop-at.invariant.1)
