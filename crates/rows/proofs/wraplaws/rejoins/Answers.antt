use Rattle.rows.proofs.Wrapping.{rejoins}
use Rattle.rows.proofs.wraplaws.rejoins.Goals as goal

pub returns : goal.returns
returns g c = rejoins
