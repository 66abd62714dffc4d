-- What is left out at the end of cells.
-- any           whether one of a list passes a test
-- up_to_last    a list up to the last that passes a test, itself included; nothing where none passes
-- no_space      whether a cell's text is not a space
-- not_plain     whether a cell is not a plain blank
use Rattle.std.specs.Prelude.{Bool, false, cond, not, ◌||◌, List, [], ◌∷◌}
use Rattle.cells.specs.Cells.{Shown, is_plain}
use Rattle.cells.specs.Kinds.{Kind}
use Rattle.cells.specs.Words.{is_space}

abbrev pub any : {X : Type 0} → (X → Bool) → List X → Bool
any p [] = false
any p (x ∷ xs) = p x || any p xs

abbrev pub up_to_last : {X : Type 0} → (X → Bool) → List X → List X
up_to_last p [] = []
up_to_last p (x ∷ xs) = cond (any p (x ∷ xs)) (x ∷ up_to_last p xs) []

abbrev pub no_space : {A : Type 0} → Shown A → Bool
no_space c = not (is_space c.text)

abbrev pub not_plain : {A : Type 0} → Kind A → Shown A → Bool
not_plain k c = not (is_plain k c)
