-- A text as pieces.
-- cut     a text cut into pieces: each is as long as the first piece of what is left, and has at least one byte; at most as many as fuel allows
-- pieces  all the pieces of a text, in order
-- flat    pieces joined
-- Part    a piece with its place, and whether it is a control: whether cleaning changes it
-- parts   the pieces of a text that stands at a place, each as a part
-- Firsts  whether each piece is the first piece of what is left
use Rattle.std.specs.Prelude.{◌≡◌, ℕ, zero, suc, ◌+◌, ◌-◌, Bool, List, [], ◌∷◌, ◌++◌, length, take, drop}
use Rattle.cells.specs.Cleaning.{unclean}

abbrev pub cut : (List ℕ → ℕ) → ℕ → List ℕ → List (List ℕ)
cut first zero t = []
cut first (suc fuel) [] = []
cut first (suc fuel) (b ∷ t) = (b ∷ take (first (b ∷ t) - 1) t) ∷ cut first fuel (drop (first (b ∷ t) - 1) t)

abbrev pub pieces : (List ℕ → ℕ) → List ℕ → List (List ℕ)
pieces first t = cut first (length t) t

abbrev pub flat : List (List ℕ) → List ℕ
flat [] = []
flat (p ∷ ps) = p ++ flat ps

pub record Part : Type 0 where
  pub at : ℕ
  pub bytes : List ℕ
  pub control : Bool

abbrev pub placed : ℕ → List (List ℕ) → List Part
placed at [] = []
placed at (p ∷ ps) = record { at = at; bytes = p; control = unclean p } ∷ placed (at + length p) ps

abbrev pub parts : (List ℕ → ℕ) → ℕ → List ℕ → List Part
parts first at t = placed at (pieces first t)

abbrev pub Firsts : (List ℕ → ℕ) → List (List ℕ) → Type 0
Firsts first [] = Unit {0}
Firsts first (p ∷ ps) = (length p ≡ first (p ++ flat ps)) × Firsts first ps
