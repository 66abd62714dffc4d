use Rattle.std.proofs.Common.{◌+◌, [], ◌∷◌, refl, ap, ◌∙◌, add-one, arith}
use Rattle.std.proofs.lemmas.List.{set_split}
use Rattle.columns.specs.Cols.{columns}
use Rattle.columns.proofs.Means.{length_cols, cols_put}
use Rattle.columns.proofs.cols.Columns.set.Goals as goal

pub returns-then-x-len : goal.returns-then-x-len
returns-then-x-len g c =
    let xs = c.args.self.now.cells.items in
    let n = length_cols xs in
    record {
      row = ap columns (rw add-one (set_split xs c.args.x c.args.c (omega arith))) ∙ cols_put c.args.x (c.args.x + 1) (c.args.c ∷ []) xs xs;
      limit = refl;
      memory = refl;
    }
