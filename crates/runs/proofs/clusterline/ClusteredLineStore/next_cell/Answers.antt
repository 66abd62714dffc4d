use Rattle.std.proofs.Common.{◌≡◌, drop, length, Ok, Some, Err, Result, sym, ap, ◌∙◌, arith}
use Rattle.std.specs.Result.{result_ok}
use Rattle.cells.specs.Refusals.{mapped}
use Rattle.cells.specs.Words.{spelled}
use Rattle.cells.specs.declared.refusal.Refusal.{Refusal}
use Rattle.cells.specs.declared.teenystring.TeenyString.{TeenyString}
use Rattle.splitters.specs.Pieces.{pieces}
use Rattle.runs.specs.Bits.{bits_of}
use Rattle.runs.proofs.Placing.{dress_none, stepped}
use Rattle.runs.proofs.clusterline.ClusteredLineStore.next_cell.Goals as goal

made_ok : (r : Result TeenyString Refusal) (t : TeenyString) → Some t ≡ result_ok r → mapped (λ s. spelled s.word) r ≡ Ok (spelled t.word)
made_ok (Ok s) t e = cc
made_ok (Err why) t e = cc

pub returns-in_err-attrs : goal.returns-in_err-attrs
returns-in_err-attrs g c =
    let s = c.self.inside.held in
    let at = c.args.at in
    rw (c.from_residual.ensures, ← c.self.view_is) (dress_none (bits_of s.wide) (pieces g.P.Splitter.splits.first (drop at.byte s.text.items)) at.column at.left s.runs.items at.run
    (omega (arith, c.in_err-attrs.ensures.lookup.3, ap length c.deref.ensures.value)))

pub returns : goal.returns
returns g c =
    stepped g.P.Splitter.splits c.args.at c.onward.result c.in_ok-attrs.field-0.now c.self.view_is c.bit.ensures.bound
    c.deref-2.ensures.value (c.piece_end-end.ensures.pieces (omega arith)) c.deref-3.ensures.value (sym c.new.ensures ∙ made_ok c.new.result c.in_ok-text.text c.in_ok-text.ensures.value)
    c.deref.ensures.value c.in_ok-attrs.ensures.lookup.3.0 c.in_ok-attrs.ensures.lookup.1
    c.bit.ensures.value c.width_by-width.ensures c.onward.ensures.byte c.onward.ensures.column c.onward.ensures.runs
