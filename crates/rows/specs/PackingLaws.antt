-- Laws of compaction, and of lists of calls.
-- Compacting  compaction gives the refusal of the first cell that the store refuses behind those before it, and none if it refuses none
-- Striking    a list of calls, with compactions and expansions struck, leaves the same and is told the same otherwise
-- Twinning    of two lists of calls: they leave the same and are told the same, compactions and expansions aside
use Rattle.std.specs.Prelude.{◌≡◌, List, [], ◌∷◌, ◌++◌, Some, None, Option}
use Rattle.cells.specs.Cells.{Shown}
use Rattle.cells.specs.Kinds.{Kind}
use Rattle.cells.specs.declared.refusal.Refusal.{Refusal}
use Rattle.splitters.specs.Splits.{Splits}
use Rattle.rows.specs.Rows.{State, Room}
use Rattle.rows.specs.Packing.{or_else, take_refusal, compaction}
use Rattle.rows.specs.Calls.{Call, after, told, struck, heard}

pub record Compacting {A : Type 0} (p : Splits) (rule : List (Shown A) → Shown A → Option Refusal) : Type 0 where
  pub none : compaction p rule [] ≡ None
  pub more : (cells : List (Shown A)) (c : Shown A) → compaction p rule (cells ++ (c ∷ [])) ≡ or_else (compaction p rule cells) (take_refusal p rule cells c)
  pub first : (taken rest : List (Shown A)) (c : Shown A) (why : Refusal) → compaction p rule taken ≡ None → take_refusal p rule taken c ≡ Some why
      → compaction p rule (taken ++ (c ∷ rest)) ≡ Some why

abbrev pub Compacts : Type 0 → Type 0
Compacts K = (p : Splits) (rule : List (Shown K) → Shown K → Option Refusal) → Compacting p rule

pub record Striking {A : Type 0} (k : Kind A) (p : Splits) (room : Room) (rule : List (Shown A) → Shown A → Option Refusal) : Type 0 where
  pub after_struck : (s : State A) (cs : List (Call A)) → after k p room s (struck cs) ≡ after k p room s cs
  pub told_struck : (s : State A) (cs : List (Call A)) → told k p room rule s (struck cs) ≡ heard cs (told k p room rule s cs)

-- two lists that are the same once compactions and expansions are struck leave the same, and are told the same otherwise,
-- whatever the two stores' rules are
pub record Twinning {A : Type 0} (k : Kind A) (p : Splits) (room : Room) (s : State A) (cs ds : List (Call A)) : Type 0 where
  pub leave : after k p room s cs ≡ after k p room s ds
  pub hear : (mine other : List (Shown A) → Shown A → Option Refusal) → heard cs (told k p room mine s cs) ≡ heard ds (told k p room other s ds)

abbrev pub Twins : Type 0 → Type 0
Twins K = (k : Kind K) (p : Splits) (room : Room) (s : State K) (cs ds : List (Call K)) → struck cs ≡ struck ds → Twinning k p room s cs ds

abbrev pub Strikes : Type 0 → Type 0
Strikes K = (k : Kind K) (p : Splits) (room : Room) (rule : List (Shown K) → Shown K → Option Refusal) → Striking k p room rule
