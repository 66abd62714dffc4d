use Rattle.rows.proofs.Strikes.{twinning}
use Rattle.rows.proofs.packing.twins_agree.Goals as goal

pub returns : goal.returns
returns g c = twinning
