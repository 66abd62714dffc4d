use Rattle.runs.proofs.Holding.{none_held}
use Rattle.runs.proofs.clusterline.ClusteredLineStore.clear.Goals as goal

pub invariant_of-s-clause-columns : goal.invariant_of-s-clause-columns
invariant_of-s-clause-columns g c =
    (none_held g.P.Splitter.splits g.A.Attributes.kind c.no_bits-s.result c.clear.ensures.items c.clear-2.ensures.items c.no_bits-s.ensures.bits c.no_bits-s.ensures.ones).columns
