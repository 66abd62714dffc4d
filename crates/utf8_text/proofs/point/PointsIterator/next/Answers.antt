use Rattle.std.proofs.Common.{rules}
use Rattle.utf8_text.proofs.Points.{read_on}
use Rattle.utf8_text.proofs.point.PointsIterator.next.Goals as goal

pub returns-clause-steps : goal.returns-clause-steps
returns-clause-steps c = read_on _ _ _ c.in_ok-c.ensures.value

pub returns-clause-goes : goal.returns-clause-goes
returns-clause-goes c =
    let e = read_on c.args.self.now.0.now c.in_ok-c.c c.in_ok-c.n c.in_ok-c.ensures.value in
    search rules
