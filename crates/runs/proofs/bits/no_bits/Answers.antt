use Rattle.runs.proofs.Flipping.{bits_none}
use Rattle.runs.proofs.bits.no_bits.Goals as goal

pub returns-clause-bits : goal.returns-clause-bits
returns-clause-bits c = bits_none 64
