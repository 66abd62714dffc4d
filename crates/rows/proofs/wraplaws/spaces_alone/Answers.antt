use Rattle.rows.proofs.Wrapping.{spaces_alone}
use Rattle.rows.proofs.wraplaws.spaces_alone.Goals as goal

pub returns : goal.returns
returns g c = spaces_alone
