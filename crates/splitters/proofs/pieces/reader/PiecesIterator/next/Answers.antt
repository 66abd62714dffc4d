use Rattle.std.proofs.Common.{rules}
use Rattle.splitters.proofs.Cutting.{next_step}
use Rattle.splitters.proofs.pieces.reader.PiecesIterator.next.Goals as goal

pub returns-then-is_unclean-clause-steps : goal.returns-then-is_unclean-clause-steps
returns-then-is_unclean-clause-steps g c = next_step g.P.Splitter.splits _ _ _ _ _ (search rules)

pub returns-else-is_unclean-clause-steps : goal.returns-else-is_unclean-clause-steps
returns-else-is_unclean-clause-steps g c = next_step g.P.Splitter.splits _ _ _ _ _ (search rules)
