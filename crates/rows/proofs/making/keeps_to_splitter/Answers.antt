use Rattle.rows.proofs.Pieces.{keeping_to}
use Rattle.rows.proofs.making.keeps_to_splitter.Goals as goal

pub returns : goal.returns
returns g c = keeping_to
