use Rattle.std.proofs.Common.{◌≡◌, map}
use Rattle.gauge.specs.Accounts.{account_on, account_of}
use Rattle.gauge.specs.Lines.{lines_of}
use Rattle.boards.specs.Boards.{come_to}
use Rattle.reports.proofs.panels.report.Given as goal

-- the account, with the lines that are left, is the account of all
abbrev pub invariant-loop-line : goal.invariant-loop-line
invariant-loop-line g l =
    let outcome = come_to g.G.Split.Splitter.splits (g.G.Fill.room (g.G.Store.row l.initial.row).sizes) l.attrs in
    record {
      sizes : (g.G.Store.row l.row).sizes ≡ (g.G.Store.row l.initial.row).sizes;
      account : account_on l.account (map outcome (lines_of l.line-iterator.rest.now)) ≡ account_of (map outcome (lines_of l.text));
    }
