-- What a cell means.
-- Shown        a shown cell: its text, its width in columns, its attributes
-- meaning      the shown cell of a cell
-- blank_with   a space with given attributes
-- plain_blank  a space with blank attributes
-- equal        whether text and attributes agree
-- alike        whether the width agrees too
-- is_plain     whether a cell is the plain blank
-- Equal        what `equal` tests; `alike` tests that two shown cells are one
use Rattle.std.specs.Prelude.{◌≡◌, ℕ, Bool, ◌&&◌, List, ◌==◌}
use Rattle.cells.specs.Cleaning.{space}
use Rattle.cells.specs.Kinds.{Kind}
use Rattle.cells.specs.Words.{is_space, same_bytes, text_of, width_of}
use Rattle.cells.specs.declared.cell.Cell.{Cell}

pub record Shown (A : Type 0) : Type 0 where
  pub text : List ℕ
  pub width : ℕ
  pub attrs : A

abbrev pub meaning : {A : Type 0} → Cell A → Shown A
meaning c = record { text = text_of c.text.word; width = width_of c.text.word; attrs = c.attrs }

abbrev pub blank_with : {A : Type 0} → A → Shown A
blank_with a = record { text = space; width = 1; attrs = a }

abbrev pub plain_blank : {A : Type 0} → Kind A → Shown A
plain_blank k = blank_with k.blank

abbrev pub equal : {A : Type 0} → Kind A → Shown A → Shown A → Bool
equal k a b = same_bytes a.text b.text && k.same a.attrs b.attrs

abbrev pub alike : {A : Type 0} → Kind A → Shown A → Shown A → Bool
alike k a b = a.width == b.width && equal k a b

abbrev pub is_plain : {A : Type 0} → Kind A → Shown A → Bool
is_plain k a = is_space a.text && k.same a.attrs k.blank

pub record Equal {A : Type 0} (a b : Shown A) : Type 0 where
  pub text : a.text ≡ b.text
  pub attrs : a.attrs ≡ b.attrs
