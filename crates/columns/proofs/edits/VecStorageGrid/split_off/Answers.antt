use Rattle.std.proofs.Common.{◌++◌, drop, sym, ap, ◌∙◌, arith}
use Rattle.rows.specs.Columns.{shown}
use Rattle.rows.proofs.Wholes.{whole_as, whole_take}
use Rattle.stores.specs.Stores.{panel_of}
use Rattle.columns.specs.Becoming.{held}
use Rattle.columns.specs.Laws.{whole_of}
use Rattle.columns.proofs.Dones.{first_carried, second_carried, split_clear, emptied_cells, emptied_number}
use Rattle.columns.proofs.edits.VecStorageGrid.split_off.Goals as goal

pub invariant_of-self : goal.invariant_of-self
invariant_of-self g c =
    let s = c.args.self.now in
    record {
      whole = ∣ whole_as c.truncate.ensures.row (whole_take c.args.idx (held s.columns) (sym c.if-is_second.ensures) (whole_of g.row.A.coded s.columns s.whole)) ∣₁;
    }

pub returns : goal.returns
returns g c =
    let s = c.args.self.now in
    let w = whole_of g.row.A.coded s.columns s.whole in
    let room = g.R.Fill.room (g.R.Store.row c.args.second.now).sizes in
    let q = panel_of g.R.Store.row g.R.Store.number c.args.second.now in
    let t = panel_of g.R.Store.row g.R.Store.number c.hand_on.new.to in
    let rest = shown (drop c.args.idx (held s.columns)) in
    let h = split_clear s.columns s.seqno w room c.args.idx c.args.seqno (sym c.if-is_second.ensures) (omega arith) in
    record {
      first = first_carried s.columns s.seqno w room c.args.idx c.args.seqno c.truncate.new.self h c.truncate.ensures;
      second = second_carried s.columns s.seqno w room c.args.idx c.args.seqno q t h
          (c.hand_on.ensures.row ∙ ap (λ v. v ++ rest) (emptied_cells g.P.Splitter.splits room c.blank.result c.args.seqno c.from_text.ensures))
          (c.hand_on.ensures.change ∙ emptied_number g.P.Splitter.splits room c.blank.result c.args.seqno c.from_text.ensures)
          (c.hand_on.ensures.room ∙ c.from_text.ensures.room);
    }
