use Rattle.rows.specs.Spread.{spread}
use Rattle.rows.proofs.Wholes.{whole_as, whole_append, whole_spread}
use Rattle.columns.specs.Becoming.{held}
use Rattle.columns.specs.Laws.{whole_of}
use Rattle.columns.proofs.edits.VecStorageGrid.append_line.Goals as goal

pub invariant_of-self : goal.invariant_of-self
invariant_of-self g c =
    let s = c.args.self.now in
    let more = (g.T.Store.row c.args.other.now).cells in
    record { whole = ∣ whole_as c.push_cells.ensures.row (whole_append (held s.columns) (spread more) (whole_of g.row.A.coded s.columns s.whole) (whole_spread more)) ∣₁ }
