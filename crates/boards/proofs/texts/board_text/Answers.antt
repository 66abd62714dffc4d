use Rattle.std.proofs.Common.{◌≡◌, ℕ, ◌-◌, ◌++◌, Ok, map, replicate, arith, append-nil, sym, ap, ◌∙◌}
use Rattle.std.proofs.lemmas.Iterator.Adapters.{items_from_extend, YieldsList-from_repeat_n}
use Rattle.std.specs.declared.alloc.AllocError.{AllocError}
use Rattle.rows.specs.Lists.{joined, span}
use Rattle.boards.proofs.texts.board_text.Goals as goal

pub returns : goal.returns
returns g c =
    let texts : c.loop-cell.text.items ≡ joined (map (λ d. d.text) (g.S.Store.row c.args.row.now).cells) =
    sym (append-nil c.loop-cell.text.items) ∙ ap (λ u. c.loop-cell.text.items ++ joined (map (λ d. d.text) u)) (sym c.in-None.ensures.steps.0.0) ∙ c.loop-cell.invariant in
    let spaces = items_from_extend {E = AllocError} {all = replicate c.saturating_sub.result 0x20} (Ok tt) c.in_ok-extend.ensures.ran
    (YieldsList-from_repeat_n (λ x y. y ≡ x) _ _ c.repeat_n.ensures.count c.repeat_n.ensures.item (λ y e. e)) in
    let n : c.saturating_sub.result ≡ c.args.width - span (g.S.Store.row c.args.row.now).cells = omega arith in
    spaces.0 ∙ ap (λ u. u ++ replicate c.saturating_sub.result 0x20) texts
    ∙ ap (λ (k : ℕ). joined (map (λ d. d.text) (g.S.Store.row c.args.row.now).cells) ++ replicate k 0x20) n
