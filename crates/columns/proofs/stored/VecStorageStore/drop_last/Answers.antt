use Rattle.cells.specs.Cells.{meaning}
use Rattle.rows.proofs.Wholes.{whole_as}
use Rattle.columns.specs.Becoming.{held}
use Rattle.columns.specs.Laws.{whole_of}
use Rattle.columns.proofs.Means.{sized_cell}
use Rattle.columns.proofs.Reading.{last_front}
use Rattle.columns.proofs.stored.VecStorageStore.drop_last.Goals as goal

pub invariant_of-self : goal.invariant_of-self
invariant_of-self g c =
    let s = c.args.self.now in
    let l = c.in-Some.last in
    record {
      whole = ∣ whole_as c.truncate.ensures.row (last_front (held s.columns) l.column (meaning l.cell) (sized_cell l.cell) (whole_of g.row.A.coded s.columns s.whole) c.in-Some.ensures) ∣₁;
    }
