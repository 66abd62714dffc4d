use Rattle.std.proofs.Common.{◌≡◌, get_or, Some, arith}
use Rattle.std.proofs.lemmas.Bool.Decides.{nat_tests}
use Rattle.utf8_text.proofs.Steps.{next, passed}
use Rattle.utf8_text.proofs.validator.is_utf8.Goals as goal

pub loop-b-preserved : goal.loop-b-preserved
loop-b-preserved c =
    let e : next c.loop-b.state (get_or c.args.text.now c.loop-b.b-index 0) ≡ Some c.match-state.state = grind (arith, nat_tests) in
    passed c.args.text.now c.loop-b.b-index c.loop-b.state _ c.loop-b.invariant (omega arith) e
