use Rattle.rows.proofs.Worked.{samples}
use Rattle.rows.proofs.samples.samples_hold.Goals as goal

pub returns : goal.returns
returns g c = samples
