use Rattle.std.proofs.Common.{arith}
use Rattle.utf8_text.proofs.Ordered.{walked, past}
use Rattle.utf8_text.proofs.wide.is_wide.Goals as goal

pub returns-then-c-last : goal.returns-then-c-last
returns-then-c-last c = walked c.args.c c.loop-first.first-index c.loop-first.invariant c.loop-first-test.true (omega arith)

pub returns : goal.returns
returns c = past c.args.c (λ k h. c.loop-first.invariant k (omega arith))
