use Rattle.std.proofs.Common.{◌≡◌, ◌+◌, ◌-◌, Bool, false, cond, not, ltb, List, length, get_or, Bor, Some, None, Option, sym, ap, ◌∙◌, arith, rules}
use Rattle.std.specs.Prelude.{is_some, IfSome, MatchOption}
use Rattle.std.proofs.lemmas.Bool.{ltb-false, ltb-true}
use Rattle.std.proofs.lemmas.List.{length_push}
use Rattle.cells.specs.Kinds.{Kind}
use Rattle.runs.specs.declared.run.Run.{Run}
use Rattle.runs.specs.Runs.{run, extend}
use Rattle.runs.proofs.Stretching.{extend_none, extend_length}
use Rattle.runs.proofs.clusters.begins_run.Goals as goal

begun_behind : {A : Type 0} (k : Kind A) (rs : List (Run A)) (a : A) (o : Option (Bor (Run A))) (b : Bool) (P : Bor (Run A) → Type 0)
    → is_some o ≡ ltb 0 (length rs) → IfSome o (λ x. x.now ≡ get_or rs (length rs - 1) x.now)
    → MatchOption o (b ≡ false) P → ((x : Bor (Run A)) → P x → b ≡ k.same x.now.attrs a)
    → length (extend k rs a) ≡ cond (not b) (length rs + 1) (length rs)
begun_behind k rs a None b P i s m h =
    let z = ltb-false 0 (length rs) (sym i) in
    ap length (sym (extend_none k rs a (omega arith))) ∙ length_push rs (run 1 a) ∙ ap (λ v. cond (not v) (length rs + 1) (length rs)) (sym m)
begun_behind k rs a (Some x) b P i s m h =
    let l = ltb-true 0 (length rs) (sym i) in
    extend_length k rs (length rs - 1) x.now a (omega arith) s ∙ ap (λ v. cond (not v) (length rs + 1) (length rs)) (sym (h x m))

pub returns : goal.returns
returns g c =
    let t = c.deref.result.now in
    let b = begun_behind g.A.Attributes.kind t c.args.attrs.now c.last.result c.is_some_and.result _ c.last.ensures.item.0 c.last.ensures.item.1 c.is_some_and.ensures (λ x q. search rules) in
    rw (← c.deref.ensures.value) (b ∙ ap (λ j. cond (not c.is_some_and.result) (j + 1) j) c.deref.ensures.len)
