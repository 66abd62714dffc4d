use Rattle.rows.proofs.Wholes.{shown_spread, whole_spread}
use Rattle.rows.proofs.Spans.{length_spread, nth_placed, none_placed, stands, hides, starts, seconds}
use Rattle.rows.proofs.bounds.reads_back.Goals as goal

pub returns : goal.returns
returns g c = record {
  sized = λ d. d.text.narrow;
  shown_spread = shown_spread;
  whole = whole_spread;
  length_spread = length_spread;
  nth_placed = nth_placed;
  none_placed = none_placed;
  stands = stands;
  hides = hides;
  starts = starts;
  seconds = seconds;
}
