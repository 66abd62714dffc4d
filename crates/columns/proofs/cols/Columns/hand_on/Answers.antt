use Rattle.std.proofs.Common.{[], ◌∷◌, ◌++◌, drop, sym, ap, ◌∙◌, arith}
use Rattle.std.proofs.lemmas.List.{append_assoc}
use Rattle.cells.specs.Cells.{meaning}
use Rattle.rows.specs.Lists.{span}
use Rattle.rows.specs.Rows.{unless}
use Rattle.rows.specs.Columns.{shown}
use Rattle.rows.proofs.Spans.{span_append}
use Rattle.columns.specs.Cols.{columns}
use Rattle.columns.specs.Becoming.{held}
use Rattle.columns.proofs.Dones.{room_left}
use Rattle.columns.proofs.cols.Columns.hand_on.Goals as goal

pub loop-c-preserved : goal.loop-c-preserved
loop-c-preserved g c =
    let d = meaning c.in-Some.c in
    let row = g.R.Store.row in
    let cs = (row c.loop-c.to).cells in
    let i = c.loop-c.invariant in
    let r = c.in-Some.ensures.steps in
    let rest = shown (columns c.next.new.self.columns.now) in
    let same = ap (λ v. (g.R.Fill.room v).capacity) i.room in
    let s = sym (span_append cs (shown (columns c.loop-c.c-iterator.columns.now))) ∙ ap span i.row ∙ span_append (row c.args.to.now).cells (shown (drop c.args.idx (held c.args.self.now))) in
    let t = ap span r in
    let ok = room_left (g.R.Fill.room (row c.loop-c.to).sizes) cs d (omega (arith, c.requires)) in
    let a = c.append_cell.ensures in
    record {
      row = ap (λ v. v ++ rest) (a.row ∙ ap (λ o. unless o cs (cs ++ (d ∷ []))) ok) ∙ append_assoc cs (d ∷ []) rest ∙ ap (λ v. cs ++ v) (sym r) ∙ i.row;
      change = a.change ∙ ap (λ o. unless o (g.R.Store.number c.loop-c.to) (g.R.Store.number c.loop-c.to)) ok ∙ i.change;
      room = a.room ∙ i.room;
    }
