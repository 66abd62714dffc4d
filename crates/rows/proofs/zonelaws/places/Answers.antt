use Rattle.rows.proofs.Places.{places}
use Rattle.rows.proofs.zonelaws.places.Goals as goal

pub returns : goal.returns
returns g c = places
