use Rattle.rows.proofs.Wholes.{whole_as, whole_spread}
use Rattle.columns.proofs.edits.VecStorageGrid.set_last_cell_was_wrapped.Goals as goal

pub invariant_of-self : goal.invariant_of-self
invariant_of-self g c = record { whole = ∣ whole_as c.flag_last.ensures.row (whole_spread _) ∣₁ }
