-- Two semantic types are one exactly where their numbers agree; two flags, where the test says so.
use Rattle.std.proofs.Common.{◌≡◌, Bool, true, false, sym, refl, ap, ◌∙◌}
use Rattle.std.proofs.lemmas.Bool.{false≢true, eqb-true, eq-eqb}
use Rattle.cells.specs.Kinds.{type_number, named, same_type, same_flag}
use Rattle.cells.specs.declared.semantic.SemanticType.{SemanticType}
use Rattle.cells.specs.declared.semantic.SemanticType.TheVariants.{Output, Input, Prompt}

named_again : (a : SemanticType) → named (type_number a) ≡ a
named_again Output = refl
named_again Input = refl
named_again Prompt = refl

pub one_type : (a b : SemanticType) → same_type a b ≡ true → a ≡ b
one_type a b e = sym (named_again a) ∙ ap named (eqb-true (type_number a) (type_number b) e) ∙ named_again b

pub type_itself : (a : SemanticType) → same_type a a ≡ true
type_itself a = eq-eqb (type_number a) (type_number a) refl

pub one_flag : (a b : Bool) → same_flag a b ≡ true → a ≡ b
one_flag true b e = sym e
one_flag false true e = absurd (false≢true e)
one_flag false false e = refl

pub flag_itself : (a : Bool) → same_flag a a ≡ true
flag_itself true = refl
flag_itself false = refl
