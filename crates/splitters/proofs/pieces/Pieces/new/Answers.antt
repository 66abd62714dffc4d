use Rattle.std.proofs.Common.{sym}
use Rattle.splitters.proofs.Cutting.{pieces_read, pieces_alone}
use Rattle.splitters.proofs.pieces.Pieces.new.Goals as goal

pub returns-clause-read : goal.returns-clause-read
returns-clause-read g c = pieces_read g.P.Splitter.splits c.args.text.now (sym c.if-not-is_good.ensures)

pub returns-clause-alone : goal.returns-clause-alone
returns-clause-alone g c = pieces_alone g.P.Splitter.splits c.args.text.now (sym c.if-not-is_good.ensures)
