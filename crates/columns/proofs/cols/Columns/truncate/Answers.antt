use Rattle.std.proofs.Common.{sym, refl, ap, ◌∙◌}
use Rattle.std.proofs.lemmas.List.{take-map}
use Rattle.cells.specs.Cells.{meaning}
use Rattle.columns.specs.Cols.{columns}
use Rattle.columns.proofs.cols.Columns.truncate.Goals as goal

pub returns : goal.returns
returns g c = record {
  row = ap columns c.truncate.ensures.items ∙ sym (take-map meaning c.args.n c.args.self.now.cells.items);
  limit = refl;
  memory = c.truncate.ensures.capacity;
}
