-- The strip kind: a semantic type and the wrapped flag, and nothing else.
-- strip         a value of the kind
-- strip_same    whether type and flag agree
-- strip_kind    the kind
-- (The other names are proofs of its laws.)
use Rattle.std.specs.Prelude.{◌≡◌, Bool, true, false, ◌&&◌, refl}
use Rattle.std.proofs.lemmas.Bool.{and_parts, and_from}
use Rattle.cells.proofs.Identical.{one_type, type_itself, one_flag, flag_itself}
use Rattle.cells.specs.Kinds.{Kind, same_type, same_flag}
use Rattle.cells.specs.declared.semantic.SemanticType.{SemanticType}
use Rattle.cells.specs.declared.semantic.SemanticType.TheVariants.{Output}
use Rattle.kinds.specs.declared.strip.StripAttributes.{StripAttributes}

abbrev pub strip : SemanticType → Bool → StripAttributes
strip kind on = record { semantic = kind; wrapped = on }

abbrev pub strip_same : StripAttributes → StripAttributes → Bool
strip_same a b = same_type a.semantic b.semantic && same_flag a.wrapped b.wrapped

pub identical : (a b : StripAttributes) → strip_same a b ≡ true → a ≡ b
identical a b e i =
    let h = and_parts (same_type a.semantic b.semantic) (same_flag a.wrapped b.wrapped) e in
    strip (one_type a.semantic b.semantic h.0 i) (one_flag a.wrapped b.wrapped h.1 i)

pub itself : (a : StripAttributes) → strip_same a a ≡ true
itself a = and_from _ _ (type_itself a.semantic) (flag_itself a.wrapped)

abbrev pub strip_kind : Kind StripAttributes
strip_kind = record {
  blank = strip Output false;
  same = strip_same;
  wrapped = λ a. a.wrapped;
  flagged = λ a on. strip a.semantic on;
  semantic = λ a. a.semantic;
  identical = identical;
  reflexive = itself;
  reads = λ a on. refl;
  twice = λ a on off. refl;
  stays = λ a. refl;
  keeps = λ a on. refl;
  unwrapped = refl;
  output = refl;
}
