use Rattle.std.proofs.Common.{◌≡◌, drop}
use Rattle.utf8_text.specs.Reading.{good}
use Rattle.utf8_text.proofs.Steps.{rest}
use Rattle.utf8_text.proofs.validator.is_utf8.Given as goal

abbrev pub invariant-loop-b : goal.invariant-loop-b
invariant-loop-b l = rest l.state (drop l.b-index l.text) ≡ good l.text
