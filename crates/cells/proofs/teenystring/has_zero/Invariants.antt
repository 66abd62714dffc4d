use Rattle.std.proofs.Common.{◌≡◌, drop}
use Rattle.cells.specs.Words.{has_zero}
use Rattle.cells.proofs.teenystring.has_zero.Given as goal

abbrev pub invariant-loop-b : goal.invariant-loop-b
invariant-loop-b l = has_zero (drop l.b-index l.text) ≡ has_zero l.text
