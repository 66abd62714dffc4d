use Rattle.runs.proofs.Holding.{none_held}
use Rattle.runs.proofs.clusterline.ClusteredLine.new.Goals as goal

pub invariant_of-result-clause-columns : goal.invariant_of-result-clause-columns
invariant_of-result-clause-columns g c =
    (none_held g.P.Splitter.splits g.A.Attributes.kind c.no_bits.result c.clear-2.ensures.items c.clear.ensures.items c.no_bits.ensures.bits c.no_bits.ensures.ones).columns
