use Rattle.std.proofs.Common.{arith}
use Rattle.runs.proofs.Holding.{packed, needs_runs, needs_bytes}
use Rattle.runs.proofs.clusterline.ClusteredLine.account.Goals as goal

pub returns : goal.returns
returns g c =
    let s = c.self.inside.held in
    let p = g.P.Splitter.splits in
    let k = g.A.Attributes.kind in
    rw (← c.self.view_is) (record {
      runs = omega (arith, needs_runs p k s c.self.invariant);
      bytes = omega (arith, needs_bytes p s c.self.invariant);
      packed = packed p k s c.self.invariant;
      sound = c.self.invariant;
    })
