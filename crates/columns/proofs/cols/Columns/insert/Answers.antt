use Rattle.std.proofs.Common.{◌<◌, cond, [], ◌∷◌, ◌++◌, take, drop, refl, ap, ◌∙◌, arith}
use Rattle.columns.specs.Cols.{columns}
use Rattle.columns.proofs.Means.{length_cols, cols_put}
use Rattle.columns.proofs.cols.Columns.insert.Goals as goal

pub returns : goal.returns
returns g c =
    let x = c.args.x in
    let v = c.args.self.now.cells in
    let new = take x v.items ++ (c.args.c ∷ drop x v.items) in
    let n = length_cols v.items in
    let l : v.len < v.cap = omega arith in
    record {
      row = ap columns (c.insert.ensures.items ∙ ap (λ b. cond b new v.items) (c.insert.ensures.succeeds l)) ∙ cols_put x x (c.args.c ∷ []) v.items v.items;
      limit = refl;
      memory = (c.insert.ensures.in_place l).1.0;
    }
