use Rattle.std.proofs.Common.{take, sym}
use Rattle.rows.specs.Columns.{padded}
use Rattle.rows.proofs.Wholes.{whole_as, whole_padded, whole_take}
use Rattle.columns.specs.Becoming.{held}
use Rattle.columns.specs.Laws.{whole_of}
use Rattle.columns.proofs.Turns.{then}
use Rattle.columns.proofs.edits.VecStorageGrid.resize.Goals as goal

pub invariant_of-self : goal.invariant_of-self
invariant_of-self g c =
    let s = c.args.self.now in
    let k = g.A.Attributes.kind in
    let n = c.args.width in
    let xs = held s.columns in
    record {
      whole = ∣ whole_as (then (padded k n) c.truncate.ensures c.pad.ensures).row
          (whole_padded k n (take n xs) (whole_take n xs (sym c.if-is_second.ensures) (whole_of g.row.A.coded s.columns s.whole))) ∣₁;
    }
