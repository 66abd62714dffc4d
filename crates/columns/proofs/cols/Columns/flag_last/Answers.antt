use Rattle.std.proofs.Common.{take, sym, refl, ap, ◌∙◌}
use Rattle.cells.specs.Cells.{meaning}
use Rattle.rows.specs.Columns.{shown, over}
use Rattle.rows.specs.Spread.{spread}
use Rattle.rows.specs.Lasts.{flag_cell, on_last}
use Rattle.columns.specs.Becoming.{held}
use Rattle.columns.proofs.Dones.{some_same}
use Rattle.columns.proofs.Means.{sized_cell}
use Rattle.columns.proofs.Reading.{last_put, last_shown}
use Rattle.columns.proofs.Turns.{as_well}
use Rattle.columns.proofs.cols.Columns.flag_last.Goals as goal

pub returns-in-Some : goal.returns-in-Some
returns-in-Some g c =
    let k = g.A.Attributes.kind in
    let f = flag_cell k c.args.on in
    let xs = held c.args.self.now in
    let l = c.in-Some.last in
    let d = meaning l.cell in
    let same = some_same k (shown xs) (shown (take l.column xs)) d (last_shown xs l.column d (sized_cell l.cell) c.requires.0 c.in-Some.ensures) in
    as_well c.put.ensures
    (ap (λ v. over l.column v xs) c.flagged.ensures ∙ last_put xs l.column d (sized_cell l.cell) c.requires.0 c.in-Some.ensures f refl ∙ sym (ap (λ v. spread (on_last f v)) same))
