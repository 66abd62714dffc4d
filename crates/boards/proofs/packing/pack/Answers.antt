use Rattle.std.proofs.Common.{[], Option, sym, ap, ◌∙◌}
use Rattle.cells.specs.Cells.{meaning}
use Rattle.cells.specs.Refusals.{verdict}
use Rattle.cells.specs.declared.refusal.Refusal.{Refusal}
use Rattle.rows.specs.Packing.{take_refusal}
use Rattle.rows.specs.Rows.{unless}
use Rattle.boards.proofs.Packed.{either, stopped, goes_on}
use Rattle.boards.proofs.packing.pack.Goals as goal

pub returns-in-Err-clause-answer : goal.returns-in-Err-clause-answer
returns-in-Err-clause-answer g c =
    let i = c.loop-cell.invariant in
    sym (ap (λ (o : Option Refusal). verdict o (tt {0}))
    (stopped g.S.Split.Splitter.splits g.T.Store.rule _ _ _ _ _ _ (meaning c.in-Some.cell) c.in-Err.why i.sizes i.all c.in-Some.ensures.steps.0 i.none c.in-Err.ensures.says))

pub returns-in-Err-clause-cells : goal.returns-in-Err-clause-cells
returns-in-Err-clause-cells g c =
    let i = c.loop-cell.invariant in
    c.clear-in-Err.ensures.row
    ∙ sym (ap (λ (o : Option Refusal). unless o [] (g.S.Store.row c.args.row.now).cells)
    (stopped g.S.Split.Splitter.splits g.T.Store.rule _ _ _ _ _ _ (meaning c.in-Some.cell) c.in-Err.why i.sizes i.all c.in-Some.ensures.steps.0 i.none c.in-Err.ensures.says))

pub loop-cell-preserved : goal.loop-cell-preserved
loop-cell-preserved g c =
    let i = c.loop-cell.invariant in
    let d = c.in_default.ensures in
    let h = goes_on g.S.Split.Splitter.splits g.T.Store.rule _ _ _ _ _ _ _ (meaning c.in-Some.cell) c.in_default.field-0 i.sizes i.all c.in-Some.ensures.steps.0 i.none d.says d.row in
    record {
      all = h.0;
      none = h.1;
      change = d.change ∙ either (take_refusal g.S.Split.Splitter.splits (g.T.Store.rule (g.T.Store.row c.loop-cell.store).sizes) (g.T.Store.row c.loop-cell.store).cells (meaning c.in-Some.cell)) (g.T.Store.number c.loop-cell.store) ∙ i.change;
      sizes = d.room ∙ i.sizes;
    }
