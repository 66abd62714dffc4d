-- What columns in memory hold, and what they become.
-- held     what they hold, column by column
-- Becomes  they hold other columns now, under the same limit and with the same room of memory
use Rattle.std.specs.Prelude.{◌≡◌, List, vec_capacity}
use Rattle.cells.specs.Cells.{Shown}
use Rattle.columns.specs.Cols.{columns}
use Rattle.columns.specs.declared.cols.Columns.{Columns}

abbrev pub held : {A : Type 0} → Columns A → List (Shown A)
held s = columns s.cells.items

pub record Becomes {A : Type 0} (old new : Columns A) (cols : List (Shown A)) : Type 0 where
  pub row : held new ≡ cols
  pub limit : new.limit ≡ old.limit
  pub memory : vec_capacity new.cells ≡ vec_capacity old.cells
