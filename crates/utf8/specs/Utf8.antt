-- The UTF-8 splitter.
-- utf8_width   wide where the first code point of a piece lies in a wide range
-- utf8_splits  good text is UTF-8; a piece is CR LF, any other control, or any other code point with the marks behind it;
--              with the laws that these keep
use Rattle.std.specs.Prelude.{refl, List, cond, ℕ}
use Rattle.splitters.specs.Splits.{Splits}
use Rattle.splitters.specs.declared.width.Width.{Width}
use Rattle.splitters.specs.declared.width.Width.TheVariants.{Narrow, Wide}
use Rattle.utf8_text.specs.Reading.{good}
use Rattle.utf8_text.specs.Pieces.{first_len}
use Rattle.utf8_text.specs.Wide.{begins_wide}
use Rattle.utf8_text.proofs.Laws as law

abbrev pub utf8_width : List ℕ → Width
utf8_width t = cond (begins_wide t) Wide Narrow

abbrev pub utf8_splits : Splits
utf8_splits =
    record {
      good = good;
      first = first_len;
      width = utf8_width;
      empty = refl;
      blank = refl;
      joined = law.joined;
      piece = law.piece;
      rest = law.rest;
      some = law.some;
      within = λ s t g h l. law.within s t g;
      nonzero = law.nonzero;
      narrow = refl;
    }
