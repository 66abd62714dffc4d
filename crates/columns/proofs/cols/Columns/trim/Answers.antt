use Rattle.std.proofs.Common.{sym, ap, ◌∙◌, not, take}
use Rattle.cells.specs.Cells.{meaning}
use Rattle.rows.specs.Columns.{shown}
use Rattle.rows.specs.Spread.{spread}
use Rattle.rows.specs.Trims.{up_to_last, not_plain}
use Rattle.rows.proofs.Wholes.{whole_as}
use Rattle.columns.specs.Becoming.{held}
use Rattle.columns.proofs.Means.{sized_cell}
use Rattle.columns.proofs.Reading.{last_front, last_shown}
use Rattle.columns.proofs.Trims.{trimmed_yes, trimmed_no}
use Rattle.columns.proofs.cols.Columns.trim.Goals as goal

pub returns-then-not-is_plain_blank : goal.returns-then-not-is_plain_blank
returns-then-not-is_plain_blank g c =
    let p = not_plain g.A.Attributes.kind in
    let xs = held c.loop-last.self in
    let l = c.in-Some.last in
    let i = c.loop-last.invariant in
    let e = last_shown xs l.column (meaning l.cell) (sized_cell l.cell) i.whole c.in-Some.ensures in
    record {
      row = sym i.whole
          ∙ ap spread (e ∙ sym (trimmed_no p (meaning l.cell) (shown (take l.column xs)) (ap not (sym c.if-not-is_plain_blank.ensures))) ∙ ap (up_to_last p) (sym e) ∙ i.kept);
      limit = i.limit;
      memory = i.memory;
    }

pub loop-last-preserved : goal.loop-last-preserved
loop-last-preserved g c =
    let p = not_plain g.A.Attributes.kind in
    let xs = held c.loop-last.self in
    let l = c.in-Some.last in
    let i = c.loop-last.invariant in
    let s = sized_cell l.cell in
    record {
      whole = whole_as c.truncate.ensures.row (last_front xs l.column (meaning l.cell) s i.whole c.in-Some.ensures);
      kept = ap (λ v. up_to_last p (shown v)) c.truncate.ensures.row
          ∙ sym (ap (up_to_last p) (last_shown xs l.column (meaning l.cell) s i.whole c.in-Some.ensures)
          ∙ trimmed_yes p (meaning l.cell) (shown (take l.column xs)) (ap not (sym c.if-not-is_plain_blank.ensures)))
          ∙ i.kept;
      limit = c.truncate.ensures.limit ∙ i.limit;
      memory = c.truncate.ensures.memory ∙ i.memory;
    }
