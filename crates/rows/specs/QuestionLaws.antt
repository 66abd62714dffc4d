-- The laws of the other questions.
-- Equivalence  equality of rows is reflexive, symmetric and transitive
-- EqualRows   rows are equal: the same change number, the same length, equal cells column by column
-- OneOrTwo   a cell takes one column or two
-- Exact        the test holds exactly of equal rows, where cells take one column or two
-- Places       a cell's column is how many columns are before it; a range whose start is not below its end holds no text
-- Written      memory that suffices holds what was written and then its rest; memory that does not is refused by 9 and stays as it was
use Rattle.std.specs.Prelude.{◌≡◌, ℕ, ◌<◌, ◌≤◌, true, ◌⊎◌, List, [], ◌++◌, map, length, drop, Ok, Err, Decides}
use Rattle.std.specs.List.{AllZip, AllByRecursion}
use Rattle.cells.specs.Cells.{Shown, Equal}
use Rattle.cells.specs.Kinds.{Kind}
use Rattle.cells.specs.declared.refusal.Refusal.TheVariants.{TooSmall}
use Rattle.rows.specs.Lists.{span}
use Rattle.rows.specs.Questions.{texts_within, equal_rows}
use Rattle.rows.specs.Rows.{State}
use Rattle.rows.specs.Spread.{spread, further, placed}
use Rattle.rows.specs.Writing.{writes, told, memory}

abbrev pub OneOrTwo : {A : Type 0} → Shown A → Type 0
OneOrTwo c = (c.width ≡ 1) ⊎ (c.width ≡ 2)

pub record EqualRows {A : Type 0} (s t : State A) : Type 0 where
  pub number : s.number ≡ t.number
  pub length : span s.cells ≡ span t.cells
  pub cells : AllZip Equal (spread s.cells) (spread t.cells)

pub record Equivalence (A : Type 0) : Type 0 where
  pub reflexive : (k : Kind A) (s : State A) → equal_rows k s s ≡ true
  pub symmetric : (k : Kind A) (s t : State A) → equal_rows k s t ≡ true → equal_rows k t s ≡ true
  pub transitive : (k : Kind A) (r s t : State A) → equal_rows k r s ≡ true → equal_rows k s t ≡ true → equal_rows k r t ≡ true

abbrev pub Exact : Type 0 → Type 0
Exact A = (k : Kind A) (s t : State A) → AllByRecursion OneOrTwo s.cells → AllByRecursion OneOrTwo t.cells → Decides (equal_rows k s t) (EqualRows s t)

pub record Places (A : Type 0) : Type 0 where
  pub columns : (before behind : List (Shown A)) → placed (before ++ behind) ≡ placed before ++ map (further (span before)) (placed behind)
  pub empty : (start end : ℕ) (cs : List (Shown A)) → end ≤ start → texts_within start end cs ≡ []

pub record Written (X : Type 0) : Type 0 where
  pub fits : (xs before : List X) → length xs ≤ length before → told (writes (length before) xs) ≡ Ok (length xs)
  pub fills : (xs before : List X) → length xs ≤ length before → memory (writes (length before) xs) before ≡ xs ++ drop (length xs) before
  pub small : (xs before : List X) → length before < length xs → told (writes (length before) xs) ≡ Err TooSmall
  pub stays : (xs before : List X) → length before < length xs → memory (writes (length before) xs) before ≡ before
