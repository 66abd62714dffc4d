use Rattle.rows.proofs.Within.{stays_whole}
use Rattle.rows.proofs.bounds.keeps_whole.Goals as goal

pub returns : goal.returns
returns g c = stays_whole
