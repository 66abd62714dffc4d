use Rattle.std.proofs.Common.{arith}
use Rattle.std.proofs.lemmas.Grind.{common_steps}
use Rattle.rows.proofs.Wholes.{whole_as, whole_spread}
use Rattle.columns.proofs.stored.VecStorageStore.take.Goals as goal

pub returns-in_err-check_cell : goal.returns-in_err-check_cell
returns-in_err-check_cell g c = grind (arith, common_steps)

pub invariant_of-self : goal.invariant_of-self
invariant_of-self g c = record { whole = ∣ whole_as c.add.ensures.cells.row (whole_spread _) ∣₁ }
