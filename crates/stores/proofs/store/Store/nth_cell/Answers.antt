use Rattle.std.proofs.Common.{◌≡◌, ℕ, suc, ◌+◌, ◌-◌, ◌∷◌, map, sym, ap, ◌∙◌, arith}
use Rattle.std.specs.List.{slice_get}
use Rattle.cells.specs.Cells.{meaning}
use Rattle.rows.specs.Lists.{span}
use Rattle.rows.specs.Spread.{further, placed}
use Rattle.stores.proofs.Placing.{further_none, nth_more}
use Rattle.stores.proofs.store.Store.nth_cell.Goals as goal

pub loop-init : goal.loop-init
loop-init g c =
    let cs = (g.Self.Store.row c.args.self.now).cells in
    let e = ap span c.start-at.ensures in
    let z : c.args.n - 0 ≡ c.args.n = omega arith in record {
      columns = omega arith;
      wanted = ap (λ u. slice_get (map (further 0) (placed u)) (c.args.n - 0)) c.start-at.ensures
          ∙ ap (λ u. slice_get u (c.args.n - 0)) (further_none (placed cs)) ∙ ap (slice_get (placed cs)) z;
    }

pub loop-preserved : goal.loop-preserved
loop-preserved g c =
    let i = c.loop.counter in
    let n = c.args.n in
    let x = c.loop.column in
    let now-left = g.Self.Store.left c.args.self.now c.loop.at in
    let next-left = g.Self.Store.left c.args.self.now c.in_ok-c.behind in
    let d = meaning c.in_ok-c.c in
    let e : now-left ≡ d ∷ next-left = c.in_ok-c.ensures in
    let h = ap span e in
    let m : suc (n - (i + 1)) ≡ n - i = omega arith in record {
      columns = omega (arith, c.loop.invariant.columns, h, c.width-column.ensures);
      wanted = ap (λ (w : ℕ). slice_get (map (further (x + w)) (placed next-left)) (n - (i + 1))) c.width-column.ensures
          ∙ sym (nth_more now-left next-left d x (n - (i + 1)) e)
          ∙ ap (slice_get (map (further x) (placed now-left))) m ∙ c.loop.invariant.wanted;
    }
