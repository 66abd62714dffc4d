use Rattle.std.proofs.Common.{◌≡◌, ◌-◌, ◌≤◌, List, ℕ, length, take, drop, sym, ap, ◌∙◌, subst, arith}
use Rattle.std.proofs.lemmas.List.{take_rest}
use Rattle.cells.specs.Cells.{meaning}
use Rattle.cells.proofs.Laid.{text_length}
use Rattle.runs.proofs.Holding.{fuses_behind_last, last_short}
use Rattle.runs.proofs.clusterline.ClusteredLine.is_fusing.Goals as goal

pub joined-requires : goal.joined-requires
joined-requires g c =
    let s = c.self.inside.held in
    let t = c.deref.result.now in
    let e : take (length t - s.last) (drop s.last t) ≡ drop s.last s.text.items = take_rest t s.last ∙ ap (drop s.last) c.deref.ensures.value in (
      subst (λ (u : List ℕ). length u ≤ 7) (sym e) (last_short g.P.Splitter.splits s c.self.invariant),
      subst (λ (u : List ℕ). length u ≤ 7) (sym c.read-text.ensures) (text_length c.args.c.now.text.word),
    )

pub returns : goal.returns
returns g c =
    let p = g.P.Splitter.splits in
    let s = c.self.inside.held in
    let t = c.deref.result.now in
    let e : take (length t - s.last) (drop s.last t) ≡ drop s.last s.text.items = take_rest t s.last ∙ ap (drop s.last) c.deref.ensures.value in
    let f = fuses_behind_last p s (meaning c.args.c.now) c.self.invariant (omega arith) in
    rw (← c.self.view_is, e, c.first_len.ensures, c.joined.ensures, e, c.read-text.ensures) (sym f)
