-- Runs of cells with equal attributes.
-- run        so many cells with these attributes
-- join       runs with one more cell in front of them
-- stretches  the runs of cells: neighbours with the same attributes are one
-- extend     runs with one more cell behind them
-- shrink     runs without their last cell
-- past       runs without their first cell
-- begun      runs of which the first has so many cells left
-- total      how many cells runs have
-- same_runs  whether two lists of runs are one
-- Apart      neighbouring runs have unlike attributes, and each has a cell
-- spread_out the attributes of the cells of runs, in turn
use Rattle.std.specs.Prelude.{◌≡◌, ℕ, ◌+◌, ◌-◌, ◌<◌, Bool, true, false, cond, ◌&&◌, List, [], ◌∷◌, ◌++◌, replicate, ◌==◌, nat_lt}
use Rattle.cells.specs.Cells.{Shown}
use Rattle.cells.specs.Kinds.{Kind}
use Rattle.runs.specs.declared.run.Run.{Run}

abbrev pub run : {A : Type 0} → ℕ → A → Run A
run n a = record { cells = n; attrs = a }

abbrev pub join : {A : Type 0} → Kind A → A → List (Run A) → List (Run A)
join k a [] = run 1 a ∷ []
join k a (r ∷ rs) = cond (k.same a r.attrs) (run (1 + r.cells) a ∷ rs) (run 1 a ∷ (r ∷ rs))

abbrev pub stretches : {A : Type 0} → Kind A → List (Shown A) → List (Run A)
stretches k [] = []
stretches k (c ∷ cs) = join k c.attrs (stretches k cs)

abbrev pub extend : {A : Type 0} → Kind A → List (Run A) → A → List (Run A)
extend k [] a = run 1 a ∷ []
extend k (r ∷ []) a = cond (k.same r.attrs a) (run (r.cells + 1) r.attrs ∷ []) (r ∷ (run 1 a ∷ []))
extend k (r ∷ (s ∷ rs)) a = r ∷ extend k (s ∷ rs) a

abbrev pub past : {A : Type 0} → List (Run A) → List (Run A)
past [] = []
past (r ∷ rs) = cond (nat_lt 1 r.cells) (run (r.cells - 1) r.attrs ∷ rs) rs

abbrev pub shrink : {A : Type 0} → List (Run A) → List (Run A)
shrink [] = []
shrink (r ∷ []) = past (r ∷ [])
shrink (r ∷ (s ∷ rs)) = r ∷ shrink (s ∷ rs)

abbrev pub begun : {A : Type 0} → ℕ → List (Run A) → List (Run A)
begun n [] = []
begun n (r ∷ rs) = run n r.attrs ∷ rs

abbrev pub total : {A : Type 0} → List (Run A) → ℕ
total [] = 0
total (r ∷ rs) = r.cells + total rs

abbrev pub same_runs : {A : Type 0} → Kind A → List (Run A) → List (Run A) → Bool
same_runs k [] [] = true
same_runs k [] (s ∷ ss) = false
same_runs k (r ∷ rs) [] = false
same_runs k (r ∷ rs) (s ∷ ss) = r.cells == s.cells && (k.same r.attrs s.attrs && same_runs k rs ss)

abbrev pub Apart : {A : Type 0} → Kind A → List (Run A) → Type 0
Apart k [] = Unit {0}
Apart k (r ∷ []) = 0 < r.cells
Apart k (r ∷ (s ∷ rs)) = (0 < r.cells) × (k.same r.attrs s.attrs ≡ false) × Apart k (s ∷ rs)

abbrev pub spread_out : {A : Type 0} → List (Run A) → List A
spread_out [] = []
spread_out (r ∷ rs) = replicate r.cells r.attrs ++ spread_out rs
