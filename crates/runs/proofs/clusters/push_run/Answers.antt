use Rattle.std.proofs.Common.{◌≡◌, ◌-◌, ◌<◌, [], ◌∷◌, ◌++◌, length, vec_len, vec_capacity, sym, refl, ap, ◌∙◌, arith}
use Rattle.std.proofs.lemmas.List.{length_push}
use Rattle.runs.specs.Runs.{run, extend}
use Rattle.runs.proofs.Stretching.{extend_none, extend_unlike, written_back}
use Rattle.runs.proofs.clusters.push_run.Goals as goal
use Rattle.runs.proofs.clusters.push_run.Goals.{in_default-via-in-Some+else-eq, in_default-via-in-None-1}

pub push_reserved-requires : goal.push_reserved-requires
push_reserved-requires g c =
    let rs = c.args.runs.now.items in
    let n = vec_len c.args.runs.now - 1 in
    let a = c.args.attrs.now in
    let k = g.A.Attributes.kind in
    let e : (c.in_default.runs.items ++ (run 1 a ∷ []) ≡ extend k rs a) × (vec_capacity c.in_default.runs ≡ vec_capacity c.args.runs.now) =
    elim c.in_default.branch [
      | in_default-via-in-Some+else-eq w ↦
          let l : 0 < vec_len c.args.runs.now = w.in-Some.ensures.variant.0 refl in
          let b = written_back rs c.in_default.runs.items n w.in-Some.r.now w.in-Some.ensures.value (ap (λ v. v.items) w.runs-is) in (
            ap (λ u. u ++ (run 1 a ∷ [])) b ∙ extend_unlike k rs n w.in-Some.r.now a (omega arith) w.in-Some.ensures.value (sym (g.met.A.Attributes.equal w.in-Some.r.now.attrs a) ∙ sym w.eq.ensures ∙ w.if-eq.false),
            ap vec_capacity w.runs-is,
          )
      | in_default-via-in-None-1 w ↦
          let l : vec_len c.args.runs.now ≡ 0 = grind (arith, c.last_mut.ensures.variant) in
          (ap (λ v. v.items ++ (run 1 a ∷ [])) w.runs-is ∙ extend_none k rs a (omega arith), ap vec_capacity w.runs-is)
    ] in
    let l = sym (length_push c.in_default.runs.items (run 1 a)) ∙ ap length e.0 in
    omega (arith, e.1)

pub returns-in_default-clause-items : goal.returns-in_default-clause-items
returns-in_default-clause-items g c =
    let rs = c.args.runs.now.items in
    let n = vec_len c.args.runs.now - 1 in
    let a = c.args.attrs.now in
    let k = g.A.Attributes.kind in
    let e : (c.in_default.runs.items ++ (run 1 a ∷ []) ≡ extend k rs a) × (vec_capacity c.in_default.runs ≡ vec_capacity c.args.runs.now) =
    elim c.in_default.branch [
      | in_default-via-in-Some+else-eq w ↦
          let l : 0 < vec_len c.args.runs.now = w.in-Some.ensures.variant.0 refl in
          let b = written_back rs c.in_default.runs.items n w.in-Some.r.now w.in-Some.ensures.value (ap (λ v. v.items) w.runs-is) in (
            ap (λ u. u ++ (run 1 a ∷ [])) b ∙ extend_unlike k rs n w.in-Some.r.now a (omega arith) w.in-Some.ensures.value (sym (g.met.A.Attributes.equal w.in-Some.r.now.attrs a) ∙ sym w.eq.ensures ∙ w.if-eq.false),
            ap vec_capacity w.runs-is,
          )
      | in_default-via-in-None-1 w ↦
          let l : vec_len c.args.runs.now ≡ 0 = grind (arith, c.last_mut.ensures.variant) in
          (ap (λ v. v.items ++ (run 1 a ∷ [])) w.runs-is ∙ extend_none k rs a (omega arith), ap vec_capacity w.runs-is)
    ] in
    c.push_reserved.ensures.items ∙ e.0
