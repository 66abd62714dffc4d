-- The laws of zones, over any kind and any cells.
-- SomeOf     what holds of one of a list
-- Kept        which cells zones are made of: all up to the last that is no plain blank, and all where all are plain blanks
-- ByType     stretches of one type each, neighbours of unlike types
-- Stretched   zones are those of stretches by type that are a cutting of the kept cells; and no other cutting of them is by type
-- HasColumn  a column lies in a zone
-- Ordered     zones are in order and disjoint, neighbours of unlike types; each kept cell lies in a zone of its type,
--             and all zones end before the cells that are left out
-- Zoned       all of these, of the zones of any cells; the order where each cell takes at least one column
use Rattle.std.specs.Prelude.{◌≡◌, ℕ, ◌<◌, ◌≤◌, true, ◌⊎◌, List, [], ◌∷◌, ◌++◌, length, ◌≢◌}
use Rattle.std.specs.List.{AllByRecursion}
use Rattle.cells.specs.Cells.{Shown, is_plain}
use Rattle.cells.specs.Kinds.{Kind}
use Rattle.rows.specs.Cuttings.{Cutting, Neighbours}
use Rattle.rows.specs.Lists.{span}
use Rattle.rows.specs.Trims.{any, not_plain}
use Rattle.rows.specs.WrapLaws.{Trimmed}
use Rattle.rows.specs.Zones.{kept, cell_type, type_of, Zone, in_columns, zones}

abbrev pub SomeOf : {X : Type 0} → (X → Type 0) → List X → Type 0
SomeOf P [] = ⊥
SomeOf P (x ∷ xs) = P x ⊎ SomeOf P xs

pub record Kept {A : Type 0} (k : Kind A) (cs : List (Shown A)) : Type 0 where
  pub trimmed : any (not_plain k) cs ≡ true → Trimmed (not_plain k) cs (kept k cs)
  pub blanks : AllByRecursion (λ c. is_plain k c ≡ true) cs → kept k cs ≡ cs

pub record ByType {A : Type 0} (k : Kind A) (rows : List (List (Shown A))) : Type 0 where
  pub one : AllByRecursion (λ row. AllByRecursion (λ c. cell_type k c ≡ type_of k row) row) rows
  pub unlike : Neighbours (λ row next. type_of k row ≢ type_of k next) rows

pub record Stretched {A : Type 0} (k : Kind A) (cs : List (Shown A)) (zs : List Zone) : Type 0 where
  pub rows : List (List (Shown A))
  pub cutting : Cutting (kept k cs) rows
  pub by_type : ByType k rows
  pub columns : zs ≡ in_columns k rows
  pub only : (others : List (List (Shown A))) → Cutting (kept k cs) others → ByType k others → others ≡ rows

abbrev pub HasColumn : Zone → ℕ → Type 0
HasColumn z column = (z.first ≤ column) × (column ≤ z.last)

pub record Ordered {A : Type 0} (k : Kind A) (cs : List (Shown A)) (zs : List Zone) : Type 0 where
  pub each : AllByRecursion (λ z. z.first ≤ z.last) zs
  pub disjoint : Neighbours (λ z next. z.last < next.first) zs
  pub unlike : Neighbours (λ z next. z.semantic ≢ next.semantic) zs
  pub covers : (before behind : List (Shown A)) (c : Shown A) → before ++ (c ∷ behind) ≡ kept k cs
      → SomeOf (λ z. HasColumn z (span before) × (z.semantic ≡ cell_type k c)) zs
  pub left_out : (before behind : List (Shown A)) → before ++ behind ≡ cs → length (kept k cs) ≤ length before
      → AllByRecursion (λ z. z.last < span before) zs

pub record Zoned (A : Type 0) : Type 0 where
  pub kept : (k : Kind A) (cs : List (Shown A)) → Kept k cs
  pub stretched : (k : Kind A) (cs : List (Shown A)) → Stretched k cs (zones k cs)
  pub ordered : (k : Kind A) (cs : List (Shown A)) → AllByRecursion (λ c. 0 < c.width) cs → Ordered k cs (zones k cs)
