use Rattle.std.proofs.Common.{ap, ◌∙◌, arith}
use Rattle.std.proofs.lemmas.List.{take_rest, length-drop}
use Rattle.splitters.proofs.Cutting.{pieces_at}
use Rattle.splitters.proofs.ends.piece_end.Goals as goal

pub returns-clause-pieces : goal.returns-clause-pieces
returns-clause-pieces g c = λ h.
    let e = c.first_len.ensures ∙ ap g.P.Splitter.splits.first (take_rest c.args.text.now c.args.at) in
    let d = length-drop c.args.at c.args.text.now in
    pieces_at g.P.Splitter.splits.first c.args.text.now c.args.at _ h (omega arith)
