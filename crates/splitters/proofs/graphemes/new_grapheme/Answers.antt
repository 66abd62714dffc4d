use Rattle.std.proofs.Common.{Err, sym, ◌∙◌}
use Rattle.std.proofs.lemmas.Result.{err_from_is_err_and}
use Rattle.splitters.proofs.Making.{made_cell}
use Rattle.splitters.proofs.graphemes.new_grapheme.Goals as goal

pub returns-in_err-text : goal.returns-in_err-text
returns-in_err-text g c =
    let e = err_from_is_err_and c.from_residual.result c.from_residual.ensures.1 in
    rw (e.1, e.2)
    (made_cell g.P.Splitter.splits c.args.text.now c.cleaned-text.result.now c.args.width c.columns_of.result c.args.attrs (Err c.in_err-text.field-0.0)
    (sym c.if-not-is_good.ensures) c.cleaned-text.ensures (sym c.first_len.ensures ∙ c.if-first_len-text.false) c.columns_of.ensures c.in_err-text.ensures)

pub returns : goal.returns
returns g c =
    made_cell g.P.Splitter.splits c.args.text.now c.cleaned-text.result.now c.args.width c.columns_of.result c.args.attrs _
    (sym c.if-not-is_good.ensures) c.cleaned-text.ensures (sym c.first_len.ensures ∙ c.if-first_len-text.false) c.columns_of.ensures c.in_ok-text.ensures
