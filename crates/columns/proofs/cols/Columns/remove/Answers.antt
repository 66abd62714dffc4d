use Rattle.std.proofs.Common.{◌+◌, [], refl, ap, ◌∙◌}
use Rattle.columns.specs.Cols.{columns}
use Rattle.columns.proofs.Means.{cols_put}
use Rattle.columns.proofs.cols.Columns.remove.Goals as goal

pub returns : goal.returns
returns g c =
    let xs = c.args.self.now.cells.items in
    record {
      row = ap columns c.remove.ensures.by_index.2 ∙ cols_put c.args.x (c.args.x + 1) [] xs xs;
      limit = refl;
      memory = c.remove.ensures.capacity;
    }
