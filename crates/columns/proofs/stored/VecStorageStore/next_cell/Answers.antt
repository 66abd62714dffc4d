use Rattle.std.proofs.Common.{◌+◌, ◌∷◌, drop, sym, ap, ◌∙◌, arith}
use Rattle.cells.specs.Cells.{meaning}
use Rattle.rows.specs.Columns.{shown}
use Rattle.columns.specs.Becoming.{held}
use Rattle.columns.proofs.Means.{sized_cell}
use Rattle.columns.proofs.Reading.{read_next}
use Rattle.columns.proofs.stored.VecStorageStore.next_cell.Goals as goal

pub returns : goal.returns
returns g c =
    let xs = held c.args.self.now.columns in
    let i = c.args.at in
    let d = c.at-c.result in
    read_next xs i (meaning d) (sized_cell d) (omega arith) c.at-c.ensures
    ∙ ap (λ k. meaning d ∷ shown (drop (i + k) xs)) (sym c.width.ensures)
