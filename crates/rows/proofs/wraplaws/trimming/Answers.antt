use Rattle.rows.proofs.Trimming.{trims}
use Rattle.rows.proofs.wraplaws.trimming.Goals as goal

pub returns : goal.returns
returns g c = trims
