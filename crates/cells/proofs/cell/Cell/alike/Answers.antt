use Rattle.std.proofs.Common.{rules}
use Rattle.cells.proofs.Agreeing.{one_word}
use Rattle.cells.proofs.cell.Cell.alike.Goals as goal

pub returns-clause-value : goal.returns-clause-value
returns-clause-value g c = search (rules, one_word)
