use Rattle.std.proofs.Common.{refl, arith}
use Rattle.runs.proofs.Holding.{last_within, lost}
use Rattle.runs.proofs.clusterline.ClusteredLineStore.drop_last.Goals as goal

pub overflow_sub-x : goal.overflow_sub-x
overflow_sub-x g c =
    last_within g.P.Splitter.splits c.self.view_is c.self.invariant (omega arith) c.len-cols.ensures c.saturating_sub.ensures c.bit-on.ensures.value c.width_by.ensures

pub invariant_of-s-clause-columns : goal.invariant_of-s-clause-columns
invariant_of-s-clause-columns g c =
    (lost g.P.Splitter.splits g.A.Attributes.kind c.last_start-s.result c.mark.new.words
    c.self.view_is c.self.invariant (omega arith) c.len-cols.ensures c.saturating_sub.ensures c.bit-on.ensures.value c.width_by.ensures
    c.truncate.ensures.items c.pop_run.ensures.items c.mark.ensures.bits c.mark.ensures.ones c.as_slice.ensures.value c.last_start-s.ensures.piece).columns

pub invariant_of-self : goal.invariant_of-self
invariant_of-self g c =
    (lost g.P.Splitter.splits g.A.Attributes.kind c.last_start-s.result c.mark.new.words
    c.self.view_is c.self.invariant (omega arith) c.len-cols.ensures c.saturating_sub.ensures c.bit-on.ensures.value c.width_by.ensures
    c.truncate.ensures.items c.pop_run.ensures.items c.mark.ensures.bits c.mark.ensures.ones c.as_slice.ensures.value c.last_start-s.ensures.piece).sound

pub returns-clause-does : goal.returns-clause-does
returns-clause-does g c =
    let b = lost g.P.Splitter.splits g.A.Attributes.kind c.last_start-s.result c.mark.new.words
    c.self.view_is c.self.invariant (omega arith) c.len-cols.ensures c.saturating_sub.ensures c.bit-on.ensures.value c.width_by.ensures
    c.truncate.ensures.items c.pop_run.ensures.items c.mark.ensures.bits c.mark.ensures.ones c.as_slice.ensures.value c.last_start-s.ensures.piece in
    rw (← c.self.view_is) (record { says = refl; row = b.row; change = refl; room = refl })

pub returns-clause-sound : goal.returns-clause-sound
returns-clause-sound g c =
    (lost g.P.Splitter.splits g.A.Attributes.kind c.last_start-s.result c.mark.new.words
    c.self.view_is c.self.invariant (omega arith) c.len-cols.ensures c.saturating_sub.ensures c.bit-on.ensures.value c.width_by.ensures
    c.truncate.ensures.items c.pop_run.ensures.items c.mark.ensures.bits c.mark.ensures.ones c.as_slice.ensures.value c.last_start-s.ensures.piece).sound
