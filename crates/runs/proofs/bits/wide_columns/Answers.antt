use Rattle.std.proofs.Common.{◌^◌, ◌≤◌, get_or, arith, rules}
use Rattle.std.specs.Prelude.{count_ones}
use lib.Count.{ones-le}
use Rattle.std.proofs.lemmas.Iterator.{YieldsList-from_slice, YieldsList-from_map}
use Rattle.std.proofs.lemmas.Iterator.Consumers.{fits_by_from_yields_list}
use Rattle.std.proofs.lemmas.List.Elements.{All-from_get_or}
use Rattle.std.proofs.lemmas.List.Sums.{sum_by-le}
use Rattle.runs.proofs.bits.wide_columns.Goals as goal

-- a word has at most 64 bits
pub sum-requires-clause-fits : goal.sum-requires-clause-fits
sum-requires-clause-fits c =
    let ws = c.args.words.now in
    let few = sum_by-le count_ones 64 ws (All-from_get_or (λ w. count_ones w ≤ 64) ws 0 (λ i h. ones-le 64 (get_or ws i 0) (omega (arith, c.fits-words i)))) in
    fits_by_from_yields_list count_ones ws _ (2 ^ 64) (YieldsList-from_map _ count_ones (YieldsList-from_slice ws cc) c.map.ensures.closure (λ x r q k. search rules)) (omega arith)
