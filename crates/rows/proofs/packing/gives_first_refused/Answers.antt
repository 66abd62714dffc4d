use Rattle.rows.proofs.Compaction.{compacting}
use Rattle.rows.proofs.packing.gives_first_refused.Goals as goal

pub returns : goal.returns
returns g c = compacting
