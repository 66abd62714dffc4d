use Rattle.std.proofs.Common.{◌≡◌, ◌++◌, map}
use Rattle.rows.specs.Lists.{joined}
use Rattle.boards.proofs.texts.board_text.Given as goal

-- what is written, and the texts of the cells that are left, are the texts of all
abbrev pub invariant-loop-cell : goal.invariant-loop-cell
invariant-loop-cell g l =
    l.text.items ++ joined (map (λ c. c.text) (g.S.Store.left l.cell-iterator.store.now l.cell-iterator.place))
    ≡ joined (map (λ c. c.text) (g.S.Store.row l.row).cells)
