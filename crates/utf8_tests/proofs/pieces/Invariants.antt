use Rattle.std.proofs.Common.{length}
use Rattle.utf8_tests.proofs.pieces.Given as goal

abbrev pub decreases-loop-piece : goal.decreases-loop-piece
decreases-loop-piece l = length l.rest
