use Rattle.rows.proofs.Wholes.{whole_as, whole_spread}
use Rattle.columns.proofs.edits.VecStorageGrid.prune_trailing_blanks.Goals as goal

pub invariant_of-self : goal.invariant_of-self
invariant_of-self g c = record { whole = ∣ whole_as c.trim.ensures.row (whole_spread _) ∣₁ }

pub invariant_of-self-else-len-before : goal.invariant_of-self-else-len-before
invariant_of-self-else-len-before g c = record { whole = ∣ whole_as c.trim.ensures.row (whole_spread _) ∣₁ }
