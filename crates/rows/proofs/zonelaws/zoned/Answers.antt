use Rattle.rows.proofs.Zoning.{zoned}
use Rattle.rows.proofs.zonelaws.zoned.Goals as goal

pub returns : goal.returns
returns g c = zoned
