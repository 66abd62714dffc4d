use Rattle.std.proofs.Common.{◌+◌, ◌||◌, get_or, drop, sym, ap, ◌∙◌, arith, eq-eqb}
use Rattle.std.proofs.lemmas.List.{at_drop_more, at_drop_all}
use Rattle.std.proofs.lemmas.Bool.{ne_eqb}
use Rattle.cells.specs.Words.{has_zero}
use Rattle.cells.proofs.teenystring.has_zero.Goals as goal

pub returns-then-b-eq0 : goal.returns-then-b-eq0
returns-then-b-eq0 c =
    let t = c.args.text.now in
    let i = c.loop-b.b-index in
    sym (sym c.loop-b.invariant ∙ at_drop_more has_zero t i 0 (omega arith) ∙ ap (λ v. v || has_zero (drop (i + 1) t)) (eq-eqb (get_or t i 0) 0 (omega arith)))

pub loop-b-preserved : goal.loop-b-preserved
loop-b-preserved c =
    let t = c.args.text.now in
    let i = c.loop-b.b-index in
    sym (ap (λ v. v || has_zero (drop (i + 1) t)) (ne_eqb (get_or t i 0) 0 c.if-b-eq0.false)) ∙ sym (at_drop_more has_zero t i 0 (omega arith)) ∙ c.loop-b.invariant

pub returns : goal.returns
returns c =
    let t = c.args.text.now in
    let i = c.loop-b.b-index in
    sym (at_drop_all has_zero t i (omega arith)) ∙ c.loop-b.invariant
