use Rattle.utf8_text.proofs.Ordered.{Behind}
use Rattle.utf8_text.proofs.wide.is_wide.Given as goal

abbrev pub invariant-loop-first : goal.invariant-loop-first
invariant-loop-first l = Behind l.c l.first-index
