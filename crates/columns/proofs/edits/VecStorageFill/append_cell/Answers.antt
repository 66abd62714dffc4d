use Rattle.rows.proofs.Wholes.{whole_as, whole_spread}
use Rattle.columns.proofs.edits.VecStorageFill.append_cell.Goals as goal

pub invariant_of-self : goal.invariant_of-self
invariant_of-self g c = record { whole = ∣ whole_as c.add.ensures.cells.row (whole_spread _) ∣₁ }
