-- Displays, and an account of lines.
-- fit_of      by how many columns a line passes a display, if it does not fit
-- plus        a sum that stops at 2^128 - 1
-- empty       the account of no lines
-- counted     an account with one line more
-- account_on  an account with more lines, by what each comes to
-- account_of  the account of lines, by what each comes to
use Rattle.std.specs.Prelude.{ℕ, ◌+◌, ◌-◌, ◌^◌, min, max, cond, List, [], ◌∷◌, replicate, Some, None, Option, Ok, Err, Result, nat_lt, slice_index, slice_set}
use Rattle.cells.specs.Refusals.{number}
use Rattle.cells.specs.declared.refusal.Refusal.{Refusal}
use Rattle.gauge.specs.declared.account.Account.{Account}
use Rattle.gauge.specs.declared.measure.Measure.{Measure}

abbrev pub fit_of : ℕ → ℕ → Option ℕ
fit_of columns display = cond (nat_lt display columns) (Some (columns - display)) None

abbrev pub plus : ℕ → ℕ → ℕ
plus m n = min (m + n) (2 ^ 128 - 1)

-- one where columns pass a display
abbrev pub past : ℕ → ℕ → ℕ
past columns display = cond (nat_lt display columns) 1 0

abbrev pub empty : Account
empty = record { lines = 0; cells = 0; columns = 0; widest = 0; door = 0; laptop = 0; refused = replicate 12 0 }

abbrev pub counted : Account → Result Measure Refusal → Account
counted a (Ok m) = record {
  lines = plus a.lines 1;
  cells = plus a.cells m.cells;
  columns = plus a.columns m.columns;
  widest = max a.widest m.columns;
  door = plus a.door (past m.columns 40);
  laptop = plus a.laptop (past m.columns 80);
  refused = a.refused;
}
counted a (Err why) = record {
  lines = plus a.lines 1;
  cells = a.cells;
  columns = a.columns;
  widest = a.widest;
  door = a.door;
  laptop = a.laptop;
  refused = slice_set a.refused (number why - 1) (plus (slice_index a.refused (number why - 1)) 1);
}

abbrev pub account_on : Account → List (Result Measure Refusal) → Account
account_on a [] = a
account_on a (outcome ∷ outcomes) = account_on (counted a outcome) outcomes

abbrev pub account_of : List (Result Measure Refusal) → Account
account_of outcomes = account_on empty outcomes
