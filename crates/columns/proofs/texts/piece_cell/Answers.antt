use Rattle.std.proofs.Common.{ap, ◌∙◌}
use Rattle.cells.specs.Words.{spelled}
use Rattle.splitters.specs.Splits.{columns}
use Rattle.splitters.proofs.Making.{dressed}
use Rattle.rows.specs.Givens.{cell_of}
use Rattle.columns.proofs.Cuts.{word_made, made_ok, made_is}
use Rattle.columns.proofs.texts.piece_cell.Goals as goal

pub unwrap-text-requires : goal.unwrap-text-requires
unwrap-text-requires g c =
    let p = g.P.Splitter.splits in
    let a = c.args.attrs.now in
    let made = word_made p a c.args.piece.now c.cleaned-text.result.now c.columns.result _ c.requires.alone c.requires.short
    c.cleaned-text.ensures (c.columns.ensures ∙ ap columns c.width_of.ensures) c.new.ensures in
    made_ok (dressed a) (λ s. spelled s.word) c.new.result (cell_of p a c.args.piece.now) made

pub returns : goal.returns
returns g c =
    let p = g.P.Splitter.splits in
    let a = c.args.attrs.now in
    let made = word_made p a c.args.piece.now c.cleaned-text.result.now c.columns.result _ c.requires.alone c.requires.short
    c.cleaned-text.ensures (c.columns.ensures ∙ ap columns c.width_of.ensures) c.new.ensures in
    made_is (dressed a) (λ s. spelled s.word) c.new.result c.unwrap-text.result (cell_of p a c.args.piece.now) made c.unwrap-text.ensures
