use Rattle.std.proofs.Common.{◌≡◌, Err, sym, refl, ap, ◌∙◌, arith}
use Rattle.std.proofs.lemmas.Result.{err_from_is_err_and}
use Rattle.runs.proofs.Holding.{accepted, goes_on, stays, took}
use Rattle.runs.proofs.clusterline.ClusteredLineStore.take.Goals as goal

pub returns-in_err-check_take-clause-does : goal.returns-in_err-check_take-clause-does
returns-in_err-check_take-clause-does g c =
    let r = err_from_is_err_and c.from_residual.result c.from_residual.ensures.1 in
    let e : c.from_residual.result ≡ Err c.in_err-check_take.field-0.0 = r.1 ∙ ap (λ w. Err w) r.2 in
    stays _ _ c.from_residual.result c.in_err-check_take.field-0.0 e (e ∙ sym c.in_err-check_take.was ∙ c.check_take.ensures)

pub push_run-requires : goal.push_run-requires
push_run-requires g c =
    let a = accepted g.P.Splitter.splits g.A.Attributes.kind c.args.c.now c.self.view_is c.self.invariant c.check_take.ensures c.in_ok-check_take.was in
    record { room = omega (arith, a.runs); small = a.few }

pub mark-requires : goal.mark-requires
mark-requires g c =
    let a = accepted g.P.Splitter.splits g.A.Attributes.kind c.args.c.now c.self.view_is c.self.invariant c.check_take.ensures c.in_ok-check_take.was in
    omega (arith, a.column, rw (← c.self.view_is) at c.len-x.ensures)

pub invariant_of-s : goal.invariant_of-s
invariant_of-s g c =
    let b = took g.P.Splitter.splits g.A.Attributes.kind c.args.c.now c.mark.new.words
    c.self.view_is c.self.invariant (accepted g.P.Splitter.splits g.A.Attributes.kind c.args.c.now c.self.view_is c.self.invariant c.check_take.ensures c.in_ok-check_take.was)
    c.read-text.ensures c.extend_from_slice.ensures.succeeds c.extend_from_slice.ensures.items c.len-end.ensures c.push_run.ensures.items
    c.len-x.ensures c.width.ensures c.mark.ensures.bits c.mark.ensures.ones in
    record {
      room = omega arith;
      within = omega (arith, b.1);
      runs_room = omega arith;
      runs_within = omega (arith, b.2, c.push_run.new.runs.ok.0);
      ends = omega (arith, b.3);
      counted = rw b.0.sound.spanned (b.0.columns _);
      columns = b.0.columns;
    }

pub invariant_of-self : goal.invariant_of-self
invariant_of-self g c =
    (took g.P.Splitter.splits g.A.Attributes.kind c.args.c.now c.mark.new.words
    c.self.view_is c.self.invariant (accepted g.P.Splitter.splits g.A.Attributes.kind c.args.c.now c.self.view_is c.self.invariant c.check_take.ensures c.in_ok-check_take.was)
    c.read-text.ensures c.extend_from_slice.ensures.succeeds c.extend_from_slice.ensures.items c.len-end.ensures c.push_run.ensures.items
    c.len-x.ensures c.width.ensures c.mark.ensures.bits c.mark.ensures.ones).0.sound

pub returns-clause-does : goal.returns-clause-does
returns-clause-does g c =
    let b = took g.P.Splitter.splits g.A.Attributes.kind c.args.c.now c.mark.new.words
    c.self.view_is c.self.invariant (accepted g.P.Splitter.splits g.A.Attributes.kind c.args.c.now c.self.view_is c.self.invariant c.check_take.ensures c.in_ok-check_take.was)
    c.read-text.ensures c.extend_from_slice.ensures.succeeds c.extend_from_slice.ensures.items c.len-end.ensures c.push_run.ensures.items
    c.len-x.ensures c.width.ensures c.mark.ensures.bits c.mark.ensures.ones in
    rw (← c.self.view_is) (goes_on _ _ _ c.in_ok-check_take.field-0 ((rw (← c.self.view_is) at (sym c.check_take.ensures)) ∙ c.in_ok-check_take.was) b.0.row refl refl)

pub returns-clause-sound : goal.returns-clause-sound
returns-clause-sound g c =
    (took g.P.Splitter.splits g.A.Attributes.kind c.args.c.now c.mark.new.words
    c.self.view_is c.self.invariant (accepted g.P.Splitter.splits g.A.Attributes.kind c.args.c.now c.self.view_is c.self.invariant c.check_take.ensures c.in_ok-check_take.was)
    c.read-text.ensures c.extend_from_slice.ensures.succeeds c.extend_from_slice.ensures.items c.len-end.ensures c.push_run.ensures.items
    c.len-x.ensures c.width.ensures c.mark.ensures.bits c.mark.ensures.ones).0.sound
