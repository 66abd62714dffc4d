use Rattle.rows.proofs.Sameness.{equivalence}
use Rattle.rows.proofs.zonelaws.equivalence.Goals as goal

pub returns : goal.returns
returns g c = equivalence
