-- Semantic zones.
-- lead           one more put in front of the first stretch
-- stretches      a list cut into its longest stretches of neighbours that are alike
-- kept           the cells that zones are made of: without the plain blanks at the end, unless all are plain blanks
-- cell_type      the semantic type of a cell
-- one_type       whether two cells are of one type
-- Zone           a semantic type, the first column of the first cell, and the first column of the last cell
-- type_of        the type of a stretch: that of its first cell
-- zone           the zone of a stretch that begins in column 0
-- moved          a zone so many columns further right
-- in_columns     the zones of stretches that stand side by side from column 0
-- zones          the zones of a row's cells
-- compute_zones  the call that writes them into memory of a size
use Rattle.std.specs.Prelude.{ℕ, ◌+◌, Bool, cond, List, [], ◌∷◌, map}
use Rattle.cells.specs.Cells.{Shown}
use Rattle.cells.specs.Kinds.{Kind, same_type}
use Rattle.cells.specs.declared.semantic.SemanticType.{SemanticType}
use Rattle.rows.specs.Lists.{span}
use Rattle.rows.specs.Packing.{without_last}
use Rattle.rows.specs.Trims.{any, up_to_last, not_plain}
use Rattle.rows.specs.Writing.{Writes, writes}

abbrev pub lead : {X : Type 0} → X → List (List X) → List (List X)
lead x [] = (x ∷ []) ∷ []
lead x (r ∷ rs) = (x ∷ r) ∷ rs

abbrev pub stretches : {X : Type 0} → (X → X → Bool) → List X → List (List X)
stretches like [] = []
stretches like (x ∷ []) = (x ∷ []) ∷ []
stretches like (x ∷ (y ∷ ys)) = cond (like x y) (lead x (stretches like (y ∷ ys))) ((x ∷ []) ∷ stretches like (y ∷ ys))

abbrev pub kept : {A : Type 0} → Kind A → List (Shown A) → List (Shown A)
kept k cs = cond (any (not_plain k) cs) (up_to_last (not_plain k) cs) cs

abbrev pub cell_type : {A : Type 0} → Kind A → Shown A → SemanticType
cell_type k c = k.semantic c.attrs

abbrev pub one_type : {A : Type 0} → Kind A → Shown A → Shown A → Bool
one_type k c d = same_type (cell_type k c) (cell_type k d)

pub record Zone : Type 0 where
  pub semantic : SemanticType
  pub first : ℕ
  pub last : ℕ

abbrev pub type_of : {A : Type 0} → Kind A → List (Shown A) → SemanticType
type_of k [] = k.semantic k.blank
type_of k (c ∷ cs) = cell_type k c

abbrev pub zone : {A : Type 0} → Kind A → List (Shown A) → Zone
zone k r = record { semantic = type_of k r; first = 0; last = span (without_last r) }

abbrev pub moved : ℕ → Zone → Zone
moved by z = record { semantic = z.semantic; first = by + z.first; last = by + z.last }

abbrev pub in_columns : {A : Type 0} → Kind A → List (List (Shown A)) → List Zone
in_columns k [] = []
in_columns k (r ∷ rs) = zone k r ∷ map (moved (span r)) (in_columns k rs)

abbrev pub zones : {A : Type 0} → Kind A → List (Shown A) → List Zone
zones k cs = in_columns k (stretches (one_type k) (kept k cs))

abbrev pub compute_zones : {A : Type 0} → Kind A → ℕ → List (Shown A) → Writes Zone
compute_zones k size cs = writes size (zones k cs)
