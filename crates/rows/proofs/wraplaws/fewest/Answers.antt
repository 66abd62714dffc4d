use Rattle.rows.proofs.Wrapping.{is_greedy}
use Rattle.rows.proofs.wraplaws.fewest.Goals as goal

pub returns : goal.returns
returns g c = is_greedy
