-- Samples of wrapping and of the questions, with blank attributes; W is U+4E2D.
-- room          a room of a capacity
-- state         a row of a number and cells
-- cell          a cell of width 1 with one byte of text
-- wide          a cell of width 2
-- wide_w        the wide cell of W
-- row           the cells of a text in ASCII
-- a_wide_b      the cells of "aWb"
-- in_three      these, each in a row of its own, the flag on all but the final one
-- WrapSamples   the samples
use Rattle.std.specs.Prelude.{◌≡◌, ℕ, true, false, List, [], ◌∷◌, ◌++◌, map, Some, codes}
use Prim.Native.String.{String}
use Rattle.cells.specs.Cells.{Shown, plain_blank}
use Rattle.cells.specs.Kinds.{Kind}
use Rattle.cells.specs.declared.refusal.Refusal.TheVariants.{NoSuchRow, TooSmall}
use Rattle.cells.specs.declared.semantic.SemanticType.TheVariants.{Output}
use Rattle.rows.specs.Lasts.{flag_cell}
use Rattle.rows.specs.Lists.{joined}
use Rattle.rows.specs.Questions.{texts_within, equal_rows}
use Rattle.rows.specs.Rows.{State, Room}
use Rattle.rows.specs.Wraps.{greedy, wrapped, wrap}
use Rattle.rows.specs.Zones.{zones}

abbrev pub room : ℕ → Room
room n = record { capacity = n }

abbrev pub state : {A : Type 0} → ℕ → List (Shown A) → State A
state n cells = record { cells = cells; number = n }

module _ {A : Type 0} (k : Kind A) where
  abbrev pub cell : ℕ → Shown A
  cell b = record { text = b ∷ []; width = 1; attrs = k.blank }

  abbrev pub wide : List ℕ → Shown A
  wide text = record { text = text; width = 2; attrs = k.blank }

  abbrev pub wide_w : Shown A
  wide_w = wide (0xe4 ∷ 0xb8 ∷ 0xad ∷ [])

  abbrev pub row : String → List (Shown A)
  row t = map cell (codes t)

  abbrev pub a_wide_b : List (Shown A)
  a_wide_b = row "a" ++ (wide_w ∷ row "b")

  abbrev pub in_three : List (List (Shown A))
  in_three = (flag_cell k true (cell 0x61) ∷ []) ∷ (flag_cell k true wide_w ∷ []) ∷ row "b" ∷ []

  pub record WrapSamples : Type 0 where
    pub words : wrapped greedy k 3 (row "ab cd  ") ≡ (row "ab" ++ (flag_cell k true (cell 0x20) ∷ [])) ∷ row "cd" ∷ []
    -- the flag does not spread over the cells that share its attributes
    pub flags : map (λ c. k.wrapped c.attrs) (joined (wrapped greedy k 3 (row "ab cd  "))) ≡ false ∷ false ∷ true ∷ false ∷ false ∷ []
    pub at_two : wrapped greedy k 2 a_wide_b ≡ in_three
    pub at_one : wrapped greedy k 1 a_wide_b ≡ in_three
    pub at_none : wrapped greedy k 0 a_wide_b ≡ in_three
    -- no break where the next cell fits
    pub fits : wrapped greedy k 3 a_wide_b ≡ (row "a" ++ (flag_cell k true wide_w ∷ [])) ∷ row "b" ∷ []
    pub spaces : wrapped greedy k 2 (row "   ") ≡ row "   " ∷ []
    pub nothing : wrapped greedy k 2 [] ≡ [] ∷ []
    pub no_row : (wrap greedy k (room 1) 2 3 9 (state 5 (row "ab cd"))).refusal ≡ Some NoSuchRow
    pub no_room : (wrap greedy k (room 1) 1 3 9 (state 5 (row "ab cd"))).refusal ≡ Some TooSmall
    pub given : (wrap greedy k (room 2) 1 3 9 (state 5 (row "ab cd"))).number ≡ 9
    pub own : (wrap greedy k (room 3) 0 2 9 (state 5 (row "   "))).number ≡ 5
    pub zone_x : zones k (row "x") ≡ record { semantic = Output; first = 0; last = 0 } ∷ []
    pub zone_wide : zones k (wide_w ∷ []) ≡ record { semantic = Output; first = 0; last = 0 } ∷ []
    pub text : texts_within 0 2 a_wide_b ≡ 0x61 ∷ 0xe4 ∷ 0xb8 ∷ 0xad ∷ []
    pub hidden : texts_within 2 4 a_wide_b ≡ 0x62 ∷ []
    pub equal : equal_rows k (state 7 (wide (codes "A") ∷ [])) (state 7 (row "A" ++ (plain_blank k ∷ []))) ≡ true
