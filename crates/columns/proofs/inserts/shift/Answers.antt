use Rattle.std.proofs.Common.{get_or, set, sym, ap, ◌∙◌, arith}
use Rattle.columns.proofs.Moved.{shift_more, shift_old}
use Rattle.columns.proofs.inserts.shift.Goals as goal

pub loop-slot-preserved : goal.loop-slot-preserved
loop-slot-preserved g c =
    let l = c.loop-slot in
    let r = c.replace-held.ensures in
    record {
      moved = ap (λ h. set l.s l.slot-index h) r.after ∙ shift_more l.s c.args.s.now c.args.c l.held l.slot-index (omega arith) l.invariant.moved l.invariant.held;
      held = shift_old l.s c.args.s.now c.args.c c.replace-held.result l.slot-index (omega arith) l.invariant.moved (r.value ∙ ap (λ d. get_or l.s l.slot-index d) (c.slot-item.is ∙ sym r.value));
    }
