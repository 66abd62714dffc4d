use Rattle.std.proofs.Common.{◌≡◌, ◌-◌, ◌≤◌, length, drop}
use Rattle.splitters.specs.Pieces.{pieces}
use Rattle.runs.specs.Dressing.{last_piece}
use Rattle.runs.proofs.texts.last_start.Given as goal

abbrev pub invariant-loop-at : goal.invariant-loop-at
invariant-loop-at g l =
    (l.at ≤ length l.text)
    × (last_piece (pieces g.P.Splitter.splits.first (drop l.at l.text)) ≡ last_piece (pieces g.P.Splitter.splits.first l.text))

abbrev pub decreases-loop-at : goal.decreases-loop-at
decreases-loop-at g l = length l.text - l.at
