use Rattle.std.proofs.Common.{◌≡◌, ℕ, ◌-◌, ◌<◌, vec_len, take, refl, ap, ◌∙◌, arith}
use Rattle.runs.proofs.Stretching.{shrink_last, shrink_none, written_back}
use Rattle.runs.proofs.clusters.pop_run.Goals as goal
use Rattle.runs.proofs.clusters.pop_run.Goals.{in_default-via-in-Some+else-last_mut-gt1, in_default-via-in-None-1}

pub returns-in_default-clause-items : goal.returns-in_default-clause-items
returns-in_default-clause-items g c =
    let rs = c.args.runs.now.items in
    let n = vec_len c.args.runs.now - 1 in
    elim c.in_default.branch [
      | in_default-via-in-Some+else-last_mut-gt1 w ↦
          let l : 0 < vec_len c.args.runs.now = w.in-Some.ensures.variant.0 refl in
          let e = written_back rs c.in_default.runs.items n w.in-Some.r.now w.in-Some.ensures.value (ap (λ v. v.items) w.runs-is) in
          c.pop.ensures.rest ∙ ap (take (vec_len c.in_default.runs - 1)) e ∙ ap (λ v. take (vec_len v - 1) rs) w.runs-is
          ∙ shrink_last rs n w.in-Some.r.now (omega arith) w.in-Some.ensures.value (omega (arith, w.if-last_mut-gt1.false))
      | in_default-via-in-None-1 w ↦
          let l : vec_len c.args.runs.now ≡ 0 = grind (arith, c.last_mut.ensures.variant) in
          c.pop.ensures.rest ∙ ap (λ v. take (vec_len v - 1) v.items) w.runs-is ∙ ap (λ (j : ℕ). take (j - 1) rs) l ∙ shrink_none rs (omega arith)
    ]
