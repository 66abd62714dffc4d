use Rattle.std.proofs.Common.{◌++◌}
use Rattle.rows.specs.Spread.{spread}
use Rattle.rows.specs.Givens.{cells_of}
use Rattle.rows.proofs.Wholes.{whole_as, whole_spread}
use Rattle.columns.proofs.Turns.{then}
use Rattle.columns.proofs.edits.VecStorageFill.from_text.Goals as goal

pub invariant_of-self : goal.invariant_of-self
invariant_of-self g c =
    let cells = cells_of g.P.Splitter.splits c.args.attrs.now c.in_ok-pieces.pieces.rest.now in
    record { whole = ∣ whole_as (then (λ v. v ++ spread cells) c.clear.ensures c.push_text.ensures).row (whole_spread cells) ∣₁ }
