use Rattle.std.proofs.Common.{length, ap, arith}
use Rattle.rows.specs.Columns.{without, blanked}
use Rattle.rows.proofs.Wholes.{whole_as, whole_blanked, whole_without, inside_blanked}
use Rattle.columns.specs.Becoming.{held}
use Rattle.columns.specs.Laws.{whole_of}
use Rattle.columns.proofs.Dones.{within_end}
use Rattle.columns.proofs.Turns.{then, length_blanked}
use Rattle.columns.proofs.edits.VecStorageGrid.remove_cell.Goals as goal

pub remove-gone-requires : goal.remove-gone-requires
remove-gone-requires g c = let n = ap length c.blank_before.ensures.row in let m = length_blanked c.args.x (held c.args.self.now.columns) in omega arith

pub invariant_of-self : goal.invariant_of-self
invariant_of-self g c =
    let s = c.args.self.now in
    let x = c.args.x in
    let xs = held s.columns in
    record {
      whole = ∣ whole_as (then (without x) c.blank_before.ensures c.remove-gone.ensures).row
          (whole_without x (blanked x xs) (inside_blanked x xs) (whole_blanked x xs (whole_of g.row.A.coded s.columns s.whole))) ∣₁;
    }

pub returns : goal.returns
returns g c =
    let s = c.args.self.now in
    let x = c.args.x in
    within_end (λ v. without x (blanked x v)) x c.args.seqno s.columns s.seqno (whole_of g.row.A.coded s.columns s.whole) c.remove-gone.new.self c.max-self.result (omega arith)
    (then (without x) c.blank_before.ensures c.remove-gone.ensures) c.max-self.ensures
