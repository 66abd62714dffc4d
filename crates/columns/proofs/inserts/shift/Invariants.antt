use Rattle.std.proofs.Common.{◌≡◌, ◌∷◌, ◌++◌, get_or, take, drop}
use Rattle.columns.proofs.inserts.shift.Given as goal

abbrev pub invariant-loop-slot : goal.invariant-loop-slot
invariant-loop-slot g l = record {
  moved : l.s ≡ take l.slot-index (l.fn.c ∷ l.fn.s) ++ drop l.slot-index l.fn.s;
  held : l.held ≡ get_or (l.fn.c ∷ l.fn.s) l.slot-index l.held;
}
