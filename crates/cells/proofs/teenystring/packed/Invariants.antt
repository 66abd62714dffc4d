use Rattle.std.proofs.Common.{◌≡◌, length, take, drop}
use Rattle.cells.specs.Words.{value}
use Rattle.cells.proofs.teenystring.packed.Given as goal

abbrev pub invariant-loop-b : goal.invariant-loop-b
invariant-loop-b l =
    let k = length l.b-iterator.iter.rest.now in
    record {
      front : l.b-iterator.iter.rest.now ≡ take k l.text;
      word : l.word ≡ value (drop k l.text);
    }
