use Rattle.std.proofs.Common.{refl}
use Rattle.std.proofs.lemmas.Result.{err_from_is_err_and}
use Rattle.cells.specs.Cells.{meaning}
use Rattle.cells.specs.Refusals.{first_of}
use Rattle.rows.specs.Columns.{between}
use Rattle.rows.specs.Rows.{state}
use Rattle.rows.specs.Edits.{becomes, made_room, insert_refusals}
use Rattle.rows.proofs.Wholes.{whole_as, whole_room, whole_between}
use Rattle.columns.specs.Cols.{room_of}
use Rattle.columns.specs.Becoming.{held}
use Rattle.columns.specs.Laws.{whole_of}
use Rattle.columns.proofs.Dones.{panel, refused_columns, carried_columns, insertable, accepted, given_up}
use Rattle.columns.proofs.Turns.{then}
use Rattle.columns.proofs.edits.VecStorageGrid.insert_cell.Goals as goal

pub returns-in_err-check_insert : goal.returns-in_err-check_insert
returns-in_err-check_insert g c =
    let s = c.args.self.now in
    let k = g.A.Attributes.kind in
    let x = c.args.x in
    let m = c.args.margin in
    let d = meaning c.args.c.now in
    let ps = g.P.Splitter.splits in
    let xs = held s.columns in
    let limit = s.columns.limit in
    let why = c.in_err-check_insert.field-0.0 in
    let p = err_from_is_err_and c.from_residual.result c.from_residual.ensures.1 in
    rw (p.1, p.2) (refused_columns (λ v. becomes (insert_refusals k ps (room_of limit) x d m v) (between x d (made_room k x m v)) c.args.seqno (state (panel s.columns s.seqno)))
    s.columns s.seqno (whole_of g.row.A.coded s.columns s.whole) why (given_up (first_of (insert_refusals k ps (room_of limit) x d m xs)) why c.in_err-check_insert.ensures))

pub invariant_of-self : goal.invariant_of-self
invariant_of-self g c =
    let s = c.args.self.now in
    let k = g.A.Attributes.kind in
    let ps = g.P.Splitter.splits in
    let x = c.args.x in
    let m = c.args.margin in
    let d = meaning c.args.c.now in
    let xs = held s.columns in
    let i = insertable k ps (room_of s.columns.limit) x d m xs (accepted (first_of (insert_refusals k ps (room_of s.columns.limit) x d m xs)) c.in_ok-check_insert.ensures) in
    let r = whole_room k x m xs (whole_of g.row.A.coded s.columns s.whole) i.parts in
    record { whole = ∣ whole_as c.slide.ensures.row (whole_between x d (made_room k x m xs) r.1 r.0) ∣₁ }

pub returns-then-slides : goal.returns-then-slides
returns-then-slides g c =
    let s = c.args.self.now in
    let k = g.A.Attributes.kind in
    let ps = g.P.Splitter.splits in
    let x = c.args.x in
    let m = c.args.margin in
    let d = meaning c.args.c.now in
    let xs = held s.columns in
    let limit = s.columns.limit in
    carried_columns (λ v. becomes (insert_refusals k ps (room_of limit) x d m v) (between x d (made_room k x m v)) c.args.seqno (state (panel s.columns s.seqno)))
    s.columns s.seqno (whole_of g.row.A.coded s.columns s.whole) c.slide.new.self (between x d (made_room k x m xs)) c.max-self.result
    (accepted (first_of (insert_refusals k ps (room_of limit) x d m xs)) c.in_ok-check_insert.ensures) c.slide.ensures refl c.max-self.ensures

pub invariant_of-self-2 : goal.invariant_of-self-2
invariant_of-self-2 g c =
    let s = c.args.self.now in
    let k = g.A.Attributes.kind in
    let ps = g.P.Splitter.splits in
    let x = c.args.x in
    let m = c.args.margin in
    let d = meaning c.args.c.now in
    let xs = held s.columns in
    let i = insertable k ps (room_of s.columns.limit) x d m xs (accepted (first_of (insert_refusals k ps (room_of s.columns.limit) x d m xs)) c.in_ok-check_insert.ensures) in
    let r = whole_room k x m xs (whole_of g.row.A.coded s.columns s.whole) i.parts in
    record { whole = ∣ whole_as (then (between x d) c.make_room.ensures c.put_in.ensures).row (whole_between x d (made_room k x m xs) r.1 r.0) ∣₁ }

pub returns : goal.returns
returns g c =
    let s = c.args.self.now in
    let k = g.A.Attributes.kind in
    let ps = g.P.Splitter.splits in
    let x = c.args.x in
    let m = c.args.margin in
    let d = meaning c.args.c.now in
    let xs = held s.columns in
    let limit = s.columns.limit in
    carried_columns (λ v. becomes (insert_refusals k ps (room_of limit) x d m v) (between x d (made_room k x m v)) c.args.seqno (state (panel s.columns s.seqno)))
    s.columns s.seqno (whole_of g.row.A.coded s.columns s.whole) c.put_in.new.self (between x d (made_room k x m xs)) c.max-self-2.result
    (accepted (first_of (insert_refusals k ps (room_of limit) x d m xs)) c.in_ok-check_insert.ensures) (then (between x d) c.make_room.ensures c.put_in.ensures) refl c.max-self-2.ensures
