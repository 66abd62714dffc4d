use Rattle.std.proofs.Common.{[], ◌∙◌, refl, rules, tests, arith}
use Rattle.std.specs.List.{take_while}
use Rattle.std.proofs.lemmas.Iterator.{YieldsList-from_map}
use Rattle.std.proofs.lemmas.Iterator.Consumers.{YieldsList-at, YieldsList-from_first, fits_by_from_yields_list, sum_by_from_yields_List}
use Rattle.std.proofs.lemmas.Iterator.Search.{YieldsList-from_take_while}
use Rattle.utf8_text.specs.Reading.{points}
use Rattle.utf8_text.specs.Pieces.{mark, size}
use Rattle.utf8_text.proofs.Cuts.{marks_within}
use Rattle.utf8_text.proofs.Points.{marks_summed, points_fit}
use Rattle.utf8_text.proofs.piece.marks_len.Goals as goal

pub sum-requires-clause-fits : goal.sum-requires-clause-fits
sum-requires-clause-fits c =
    let cs = points c.args.behind.0.now in
    fits_by_from_yields_list size (take_while mark cs) c.map.result _
    (YieldsList-from_map _ size (YieldsList-at c.map.ensures.source (YieldsList-from_take_while _ mark (YieldsList-at c.take_while.ensures.source (YieldsList-from_first (λ x. x) (λ s. points s.0.now) cs refl))
    c.take_while.ensures.closure c.take_while.ensures.done (λ x b q k. search (rules, tests)))) c.map.ensures.closure (λ x r q k. search rules))
    (omega (arith, marks_summed cs, marks_within cs [], points_fit c.args.behind.0.now))

pub returns : goal.returns
returns c =
    let cs = points c.args.behind.0.now in
    sum_by_from_yields_List size (take_while mark cs) c.map.result _ c.sum.ensures.ran
    (YieldsList-from_map _ size (YieldsList-at c.map.ensures.source (YieldsList-from_take_while _ mark (YieldsList-at c.take_while.ensures.source (YieldsList-from_first (λ x. x) (λ s. points s.0.now) cs refl))
    c.take_while.ensures.closure c.take_while.ensures.done (λ x b q k. search (rules, tests)))) c.map.ensures.closure (λ x r q k. search rules))
    ∙ marks_summed cs
