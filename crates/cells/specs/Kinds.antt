-- Attribute kinds.
-- type_number  the number of each semantic type
-- typed        the semantic type of a number, refused where there is none
-- same_type    whether two types are one
-- same_flag    whether two flags are one
-- Kind         the operations of an attribute kind, and the laws that these keep
use Rattle.std.specs.Prelude.{◌≡◌, ℕ, zero, suc, Bool, true, false, not, [], ◌∷◌, Result, ◌==◌, nat_lt}
use Rattle.cells.specs.Refusals.{first_of, verdict}
use Rattle.cells.specs.declared.refusal.Refusal.{Refusal}
use Rattle.cells.specs.declared.refusal.Refusal.TheVariants.{BadType}
use Rattle.cells.specs.declared.semantic.SemanticType.{SemanticType}
use Rattle.cells.specs.declared.semantic.SemanticType.TheVariants.{Output, Input, Prompt}

abbrev pub type_number : SemanticType → ℕ
type_number Output = 0
type_number Input = 1
type_number Prompt = 2

-- the type that has a number below 3
abbrev pub named : ℕ → SemanticType
named zero = Output
named (suc zero) = Input
named (suc (suc n)) = Prompt

abbrev pub typed : ℕ → Result SemanticType Refusal
typed n = verdict (first_of ((nat_lt 2 n, BadType) ∷ [])) (named n)

abbrev pub same_type : SemanticType → SemanticType → Bool
same_type a b = type_number a == type_number b

abbrev pub same_flag : Bool → Bool → Bool
same_flag true on = on
same_flag false on = not on

pub record Kind (K : Type 0) : Type 0 where
  pub blank : K
  pub same : K → K → Bool
  pub wrapped : K → Bool
  pub flagged : K → Bool → K
  pub semantic : K → SemanticType
  -- the equality holds exactly for identical values
  pub identical : (a b : K) → same a b ≡ true → a ≡ b
  pub reflexive : (a : K) → same a a ≡ true
  -- the flag reads as last set; setting twice equals the second setting; setting it to what it is changes nothing
  pub reads : (a : K) (on : Bool) → wrapped (flagged a on) ≡ on
  pub twice : (a : K) (on off : Bool) → flagged (flagged a on) off ≡ flagged a off
  pub stays : (a : K) → flagged a (wrapped a) ≡ a
  -- setting never alters the type; the blank is unwrapped Output
  pub keeps : (a : K) (on : Bool) → semantic (flagged a on) ≡ semantic a
  pub unwrapped : wrapped blank ≡ false
  pub output : semantic blank ≡ Output
