use Rattle.std.proofs.Common.{◌-◌, ◌+◌, ◌∷◌, ◌++◌, take, drop, sym, ap, ◌∙◌}
use Rattle.cells.specs.Cells.{meaning}
use Rattle.columns.specs.Becoming.{held}
use Rattle.columns.proofs.Turns.{as_well}
use Rattle.columns.proofs.Writes.{blanked_set}
use Rattle.columns.proofs.cols.Columns.blank_before.Goals as goal

pub returns-then-is_second : goal.returns-then-is_second
returns-then-is_second g c =
    let x = c.args.x in
    let xs = held c.args.self.now in
    let d = c.at-c.result in
    as_well c.set.ensures (ap (λ v. take (x - 1) xs ++ (v ∷ drop (x - 1 + 1) xs)) c.blank_with_attrs.ensures ∙ blanked_set x xs (meaning d) (sym c.if-is_second.ensures) c.at-c.ensures)
