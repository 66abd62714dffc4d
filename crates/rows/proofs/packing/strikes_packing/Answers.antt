use Rattle.rows.proofs.Strikes.{striking}
use Rattle.rows.proofs.packing.strikes_packing.Goals as goal

pub returns : goal.returns
returns g c = striking
