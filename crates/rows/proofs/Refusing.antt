-- Which refusal is given.
use Rattle.std.proofs.Common.{◌≡◌, ℕ, Bool, true, false, cond, List, [], ◌∷◌, Some, None, Option, refl, arith}
use Rattle.cells.specs.Refusals.{first_of}
use Rattle.cells.specs.declared.refusal.Refusal.{Refusal}

-- what is known where a refusal did not fit
pub passed : (b : Bool) (e : Refusal) (rest : Option Refusal) → cond b (Some e) rest ≡ None → (b ≡ false) × (rest ≡ None)
passed true e rest h = let z : ◌≡◌ {A = ℕ} 0 1 = cc in absurd (omega arith)
passed false e rest h = (refl, h)

abbrev pub Clear : List (Bool × Refusal) → Type 0
Clear [] = Unit {0}
Clear (p ∷ ps) = (p.0 ≡ false) × Clear ps

pub none_fits : (ps : List (Bool × Refusal)) → first_of ps ≡ None → Clear ps
none_fits [] e = tt
none_fits (p ∷ ps) e = let a = passed p.0 p.1 (first_of ps) e in (a.0, none_fits ps a.1)
