-- The colour kind: a 32-bit number, a foreground and a background.
-- same_color    whether two colours are one
-- color_same    whether number and colours agree
-- painted       the number and the colours of the value that is made, or the refusal
-- color_kind    the kind
-- (The other names are proofs of its laws.)
use Rattle.std.specs.Prelude.{◌≡◌, ℕ, ◌/◌, ◌%◌, ◌^◌, ◌<◌, Bool, true, false, ◌&&◌, [], ◌∷◌, Result, ◌==◌, refl}
use Rattle.std.proofs.Common.{sym, ap, subst, arith, lit<}
use mathlib.Core.HLevel.{is_prop→PathP}
use Rattle.std.proofs.Math.Bridge.{le_prop}
use Rattle.std.proofs.lemmas.Bool.{false≢true, eqb-true, eqb-false, eq-eqb, ne_eqb, and_parts, and_from}
use Rattle.cells.specs.Refusals.{first_of, verdict}
use Rattle.cells.specs.declared.refusal.Refusal.{Refusal}
use Rattle.cells.specs.declared.refusal.Refusal.TheVariants.{BadType}
use Rattle.kinds.specs.Bitfields.{flag_bit, type_bits, with_flag}
use Rattle.cells.specs.Kinds.{Kind, named}
use Rattle.kinds.specs.declared.color.SmallColor.{SmallColor}
use Rattle.kinds.specs.declared.color.SmallColor.TheVariants.{Default, PaletteIndex}
use Rattle.kinds.specs.declared.cellattributes.CellAttributes.{CellAttributes}

abbrev pub same_color : SmallColor → SmallColor → Bool
same_color Default Default = true
same_color Default (PaletteIndex n) = false
same_color (PaletteIndex m) Default = false
same_color (PaletteIndex m) (PaletteIndex n) = m == n

abbrev pub color_same : CellAttributes → CellAttributes → Bool
color_same a b =
    (a.attributes == b.attributes) && (same_color a.foreground b.foreground && same_color a.background b.background)

-- what a value is made of, or 12 where the type is 3
abbrev pub painted : ℕ → SmallColor → SmallColor → Result (ℕ × SmallColor × SmallColor) Refusal
painted n fore back = verdict (first_of (((type_bits n == 3), BadType) ∷ [])) (n, fore, back)

-- values with the same parts are one: the ghost field has one proof at most
pub by_parts : (a b : CellAttributes) → a.attributes ≡ b.attributes → a.foreground ≡ b.foreground → a.background ≡ b.background → a ≡ b
by_parts a b p q r i = record {
  attributes = p i;
  foreground = q i;
  background = r i;
  typed = is_prop→PathP (λ j. type_bits (p j) < 3) (λ j. le_prop) a.typed b.typed i;
}

pub same_flagged : (n : ℕ) (on : Bool) → type_bits (with_flag n on) ≡ type_bits n
same_flagged n true = omega arith
same_flagged n false = omega arith

abbrev pub flagged : CellAttributes → Bool → CellAttributes
flagged a on = record {
  attributes = with_flag a.attributes on;
  foreground = a.foreground;
  background = a.background;
  typed = subst (λ (k : ℕ). k < 3) (sym (same_flagged a.attributes on)) a.typed;
}

abbrev pub color_blank : CellAttributes
color_blank = record { attributes = 0; foreground = Default; background = Default; typed = lit< tt }

pub one_color : (x y : SmallColor) → same_color x y ≡ true → x ≡ y
one_color Default Default e = refl
one_color Default (PaletteIndex n) e = absurd (false≢true e)
one_color (PaletteIndex m) Default e = absurd (false≢true e)
one_color (PaletteIndex m) (PaletteIndex n) e = ap PaletteIndex (eqb-true m n e)

pub color_itself : (x : SmallColor) → same_color x x ≡ true
color_itself Default = refl
color_itself (PaletteIndex n) = eq-eqb n n refl

pub color_identical : (a b : CellAttributes) → color_same a b ≡ true → a ≡ b
color_identical a b e =
    let n = and_parts _ _ e in
    let c = and_parts _ _ n.1 in
    by_parts a b (eqb-true a.attributes b.attributes n.0) (one_color _ _ c.0) (one_color _ _ c.1)

pub color_reflexive : (a : CellAttributes) → color_same a a ≡ true
color_reflexive a =
    and_from _ _ (eq-eqb a.attributes a.attributes refl) (and_from _ _ (color_itself a.foreground) (color_itself a.background))

pub flag_reads : (n : ℕ) (on : Bool) → flag_bit (with_flag n on) ≡ on
flag_reads n true = eq-eqb _ 1 (omega arith)
flag_reads n false = ne_eqb (with_flag n false / 2 ^ 11 % 2) 1 (λ e. absurd (omega arith))

pub flag_twice : (n : ℕ) (on off : Bool) → with_flag (with_flag n on) off ≡ with_flag n off
flag_twice n true true = omega arith
flag_twice n true false = omega arith
flag_twice n false true = omega arith
flag_twice n false false = omega arith

by_flag : (n : ℕ) (on : Bool) → flag_bit n ≡ on → with_flag n on ≡ n
by_flag n true e = let h : n / 2 ^ 11 % 2 ≡ 1 = eqb-true _ 1 e in omega arith
by_flag n false e = let h : n / 2 ^ 11 % 2 ≡ 1 → ⊥ = eqb-false (n / 2 ^ 11 % 2) 1 e in omega arith

pub flag_stays : (n : ℕ) → with_flag n (flag_bit n) ≡ n
flag_stays n = by_flag n (flag_bit n) refl

abbrev pub color_kind : Kind CellAttributes
color_kind = record {
  blank = color_blank;
  same = color_same;
  wrapped = λ a. flag_bit a.attributes;
  flagged = flagged;
  semantic = λ a. named (type_bits a.attributes);
  identical = color_identical;
  reflexive = color_reflexive;
  reads = λ a on. flag_reads a.attributes on;
  twice = λ a on off. by_parts (flagged (flagged a on) off) (flagged a off) (flag_twice a.attributes on off) refl refl;
  stays = λ a. by_parts (flagged a (flag_bit a.attributes)) a (flag_stays a.attributes) refl refl;
  keeps = λ a on. ap named (same_flagged a.attributes on);
  unwrapped = refl;
  output = refl;
}
