use Rattle.rows.proofs.Agreement.{agreeing}
use Rattle.rows.proofs.agreeing.agrees_on_columns.Goals as goal

pub returns : goal.returns
returns g c = agreeing
