use Rattle.rows.proofs.Chosen.{choosing}
use Rattle.rows.proofs.choosing.chooses_smallest.Goals as goal

pub returns : goal.returns
returns g c = choosing
