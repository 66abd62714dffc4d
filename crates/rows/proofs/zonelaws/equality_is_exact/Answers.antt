use Rattle.rows.proofs.Sameness.{exact}
use Rattle.rows.proofs.zonelaws.equality_is_exact.Goals as goal

pub returns : goal.returns
returns g c = exact
