use Rattle.rows.proofs.Within.{stays_within}
use Rattle.rows.proofs.bounds.keeps_within.Goals as goal

pub returns : goal.returns
returns g c = stays_within
