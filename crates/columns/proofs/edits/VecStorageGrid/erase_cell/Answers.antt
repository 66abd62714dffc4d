use Rattle.std.proofs.Common.{[], ◌∷◌, ◌++◌, length, ap, arith}
use Rattle.cells.specs.Cells.{plain_blank}
use Rattle.rows.specs.Columns.{without, blanked}
use Rattle.rows.proofs.Wholes.{whole_as, whole_append, whole_blanks, whole_blanked, whole_without, inside_blanked}
use Rattle.columns.specs.Becoming.{held}
use Rattle.columns.specs.Laws.{whole_of}
use Rattle.columns.proofs.Dones.{within_end}
use Rattle.columns.proofs.Turns.{then, as_well, length_blanked}
use Rattle.columns.proofs.edits.VecStorageGrid.erase_cell.Goals as goal

pub remove-gone-requires : goal.remove-gone-requires
remove-gone-requires g c = let n = ap length c.blank_before.ensures.row in let m = length_blanked c.args.x (held c.args.self.now.columns) in omega arith

pub invariant_of-self : goal.invariant_of-self
invariant_of-self g c =
    let s = c.args.self.now in
    let k = g.A.Attributes.kind in
    let x = c.args.x in
    let xs = held s.columns in
    let b = as_well c.push.ensures (ap (λ v. held c.remove-gone.new.self ++ (v ∷ [])) c.blank.ensures) in
    record {
      whole = ∣ whole_as (then (λ v. v ++ (plain_blank k ∷ [])) (then (without x) c.blank_before.ensures c.remove-gone.ensures) b).row
          (whole_append (without x (blanked x xs)) (plain_blank k ∷ []) (whole_without x (blanked x xs) (inside_blanked x xs) (whole_blanked x xs (whole_of g.row.A.coded s.columns s.whole)))
          (whole_blanks 1 k.blank)) ∣₁;
    }

pub returns : goal.returns
returns g c =
    let s = c.args.self.now in
    let k = g.A.Attributes.kind in
    let x = c.args.x in
    let b = as_well c.push.ensures (ap (λ v. held c.remove-gone.new.self ++ (v ∷ [])) c.blank.ensures) in
    within_end (λ v. without x (blanked x v) ++ (plain_blank k ∷ [])) x c.args.seqno s.columns s.seqno (whole_of g.row.A.coded s.columns s.whole) c.push.new.self c.max-self.result (omega arith)
    (then (λ v. v ++ (plain_blank k ∷ [])) (then (without x) c.blank_before.ensures c.remove-gone.ensures) b) c.max-self.ensures
