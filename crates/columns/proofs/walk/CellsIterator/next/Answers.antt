use Rattle.std.proofs.Common.{◌∷◌, sym, ap, ◌∙◌, arith}
use Rattle.cells.specs.Cells.{meaning}
use Rattle.rows.specs.Columns.{shown}
use Rattle.columns.proofs.Means.{cols_from}
use Rattle.columns.proofs.Reading.{read_cell}
use Rattle.columns.proofs.walk.CellsIterator.next.Goals as goal

pub returns-clause-steps : goal.returns-clause-steps
returns-clause-steps g c =
    let xs = c.args.self.now.columns.now in
    let d = c.in_ok-c.field-0.now in
    read_cell xs d c.in_ok-c.ensures.value ∙ ap (λ v. meaning d ∷ shown v) (sym (cols_from xs (meaning d).width c.min-n.result (omega arith)))
