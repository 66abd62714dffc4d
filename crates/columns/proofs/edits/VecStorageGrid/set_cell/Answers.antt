use Rattle.std.proofs.Common.{◌≡◌, ◌+◌, true, false, cond, ◌&&◌, ltb, length, sym, ap, arith}
use Rattle.std.proofs.lemmas.Bool.{ltb-false}
use Rattle.std.proofs.lemmas.Grind.{common_steps}
use Rattle.cells.specs.Cells.{meaning, is_plain}
use Rattle.cells.specs.Refusals.{first_of}
use Rattle.rows.specs.Columns.{shown, blanked, padded, over}
use Rattle.rows.specs.Givens.{cell_refusals}
use Rattle.rows.specs.Rows.{state}
use Rattle.rows.specs.Edits.{becomes, set_refusals, set_columns}
use Rattle.rows.proofs.Wholes.{whole_as, whole_blanked, whole_padded, whole_over, inside_blanked}
use Rattle.columns.specs.Cols.{room_of}
use Rattle.columns.specs.Becoming.{held}
use Rattle.columns.specs.Laws.{whole_of}
use Rattle.columns.proofs.Dones.{panel, carried_columns, set_clear, accepted}
use Rattle.columns.proofs.Seconds.{length_padded}
use Rattle.columns.proofs.Turns.{untouched, then, length_blanked}
use Rattle.columns.proofs.edits.VecStorageGrid.set_cell.Goals as goal

pub returns-in_err-check_cell : goal.returns-in_err-check_cell
returns-in_err-check_cell g c = grind (arith, common_steps)

pub returns-then-adds_nothing : goal.returns-then-adds_nothing
returns-then-adds_nothing g c =
    let s = c.args.self.now in
    let k = g.A.Attributes.kind in
    let ps = g.P.Splitter.splits in
    let x = c.args.x in
    let d = meaning c.args.c.now in
    let xs = held s.columns in
    let limit = s.columns.limit in
    let f = ltb-false limit (x + c.width.result) (sym c.if-passes.ensures) in
    let t : (ltb (length xs) x && is_plain k d) ≡ true = sym c.if-adds_nothing.ensures in
    carried_columns (λ v. becomes (set_refusals ps (room_of limit) x d) (set_columns k x d v) c.args.seqno (state (panel s.columns s.seqno))) s.columns s.seqno
    (whole_of g.row.A.coded s.columns s.whole) s.columns xs c.max-self.result
    (set_clear ps (room_of limit) x d (accepted (first_of (cell_refusals ps d)) c.in_ok-check_cell.ensures) (omega arith)) (untouched s.columns)
    (sym (ap (λ b. shown (cond b xs (over x d (blanked x (padded k x xs))))) t)) c.max-self.ensures

pub put-requires : goal.put-requires
put-requires g c =
    let xs = held c.args.self.now.columns in
    let ys = padded g.A.Attributes.kind c.args.x xs in
    let f = ltb-false c.args.self.now.columns.limit (c.args.x + c.width.result) (sym c.if-passes.ensures) in
    let n = ap length (then (blanked c.args.x) c.pad.ensures c.blank_before.ensures).row in
    let m = length_blanked c.args.x ys in
    let l = length_padded g.A.Attributes.kind c.args.x xs in
    (omega arith, omega arith)

pub invariant_of-self-2 : goal.invariant_of-self-2
invariant_of-self-2 g c =
    let s = c.args.self.now in
    let k = g.A.Attributes.kind in
    let x = c.args.x in
    let d = meaning c.args.c.now in
    let ys = padded k x (held s.columns) in
    record {
      whole = ∣ whole_as (then (over x d) (then (blanked x) c.pad.ensures c.blank_before.ensures) c.put.ensures).row
          (whole_over x d (blanked x ys) (inside_blanked x ys) (whole_blanked x ys (whole_padded k x (held s.columns) (whole_of g.row.A.coded s.columns s.whole)))) ∣₁;
    }

pub returns : goal.returns
returns g c =
    let s = c.args.self.now in
    let k = g.A.Attributes.kind in
    let ps = g.P.Splitter.splits in
    let x = c.args.x in
    let d = meaning c.args.c.now in
    let xs = held s.columns in
    let limit = s.columns.limit in
    let f = ltb-false limit (x + c.width.result) (sym c.if-passes.ensures) in
    let t : (ltb (length xs) x && is_plain k d) ≡ false = sym c.if-adds_nothing.ensures in
    carried_columns (λ v. becomes (set_refusals ps (room_of limit) x d) (set_columns k x d v) c.args.seqno (state (panel s.columns s.seqno))) s.columns s.seqno
    (whole_of g.row.A.coded s.columns s.whole) c.put.new.self (over x d (blanked x (padded k x xs))) c.max-self-2.result
    (set_clear ps (room_of limit) x d (accepted (first_of (cell_refusals ps d)) c.in_ok-check_cell.ensures) (omega arith))
    (then (over x d) (then (blanked x) c.pad.ensures c.blank_before.ensures) c.put.ensures)
    (sym (ap (λ b. shown (cond b xs (over x d (blanked x (padded k x xs))))) t)) c.max-self-2.ensures
