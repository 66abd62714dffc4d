use Rattle.cells.proofs.Laid.{bits}
use Rattle.cells.proofs.teenystring.TeenyString.word.Goals as goal

pub returns-clause-bits : goal.returns-clause-bits
returns-clause-bits c = bits c.args.self.now.word c.args.self.now.laid
