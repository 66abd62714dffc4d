use Rattle.std.proofs.Common.{ℕ, rules}
use Rattle.cells.proofs.Laid.{read_more}
use Rattle.cells.proofs.teenystring.packed.Goals as goal

pub loop-b-preserved : goal.loop-b-preserved
loop-b-preserved c =
    let i = c.loop-b.invariant in
    let h = read_more c.args.text.now c.loop-b.b-iterator.iter.rest.now c.next.new.self.iter.rest.now c.in-Some.b.now c.loop-b.word c.requires
    (λ (k : ℕ). let h = c.type_inv.text k in search rules) c.in-Some.ensures.steps i.front i.word in
    record { front = h.0; word = search rules }
