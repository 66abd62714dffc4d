use Rattle.std.proofs.Common.{ℕ, inl, inr, rules}
use Rattle.cells.proofs.Refused.{Packed, packs}
use Rattle.cells.proofs.teenystring.pack.Goals as goal
use Rattle.cells.proofs.teenystring.pack.Goals.{then-width-eq2, else-width-eq2}

pub invariant_of-result : goal.invariant_of-result
invariant_of-result c =
    let p : Packed c.args.text.now c.args.width c.if-width-eq2.word =
    packs c.args.text.now c.args.width c.packed-word.result c.if-width-eq2.word c.requires.0 c.requires.1
    (λ (i : ℕ). let h = c.type_inv.text i in search rules) c.packed-word.ensures
    (elim c.if-width-eq2.branch [ then-width-eq2 w ↦ inl (w.if-width-eq2.true, w.word-is) | else-width-eq2 w ↦ inr (w.if-width-eq2.false, w.word-is) ]) in
    record { laid = p.is_laid; clean = p.is_clean; narrow = p.is_narrow }

pub returns : goal.returns
returns c =
    (packs c.args.text.now c.args.width c.packed-word.result c.if-width-eq2.word c.requires.0 c.requires.1
    (λ (i : ℕ). let h = c.type_inv.text i in search rules) c.packed-word.ensures
    (elim c.if-width-eq2.branch [ then-width-eq2 w ↦ inl (w.if-width-eq2.true, w.word-is) | else-width-eq2 w ↦ inr (w.if-width-eq2.false, w.word-is) ])
    ).spells
