-- Lists of shown cells.
-- span      how many columns cells take together: the length of a row that shows them
-- joined    rows joined
-- last_of   the last of a list, or none
use Rattle.std.specs.Prelude.{ℕ, ◌+◌, List, [], ◌∷◌, ◌++◌, Some, None, Option}
use Rattle.cells.specs.Cells.{Shown}

abbrev pub span : {A : Type 0} → List (Shown A) → ℕ
span [] = 0
span (c ∷ cs) = c.width + span cs

abbrev pub joined : {X : Type 0} → List (List X) → List X
joined [] = []
joined (r ∷ rs) = r ++ joined rs

abbrev pub last_of : {X : Type 0} → List X → Option X
last_of [] = None
last_of (x ∷ []) = Some x
last_of (x ∷ (y ∷ xs)) = last_of (y ∷ xs)
