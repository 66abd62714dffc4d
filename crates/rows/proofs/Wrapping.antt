-- The laws of wrapping, put together.
use Rattle.std.proofs.Common.{◌≡◌, ℕ, true, false, cond, not, ◌||◌, List, [], ◌∷◌, length, get_or, sym, refl, ap, ◌∙◌, arith}
use Rattle.std.specs.List.{AllByRecursion}
use Rattle.std.proofs.ByRecursion.{All-weaker}
use Rattle.cells.specs.Cells.{Shown}
use Rattle.cells.specs.Kinds.{Kind}
use Rattle.cells.specs.Words.{is_space}
use Rattle.rows.specs.Cuttings.{FitsOrOne}
use Rattle.rows.specs.Lists.{joined}
use Rattle.rows.specs.Trims.{any, no_space}
use Rattle.rows.specs.Wraps.{trimmed, Cut, rows_of, greedy, flag_ends, wrapped}
use Rattle.rows.specs.WrapLaws.{Rejoins, Least, GreedyRows, Alone}
use Rattle.rows.proofs.CuttingUp.{rows_cutting, rows_fit}
use Rattle.rows.proofs.Greedy.{greedy_proper, fewest}
use Rattle.rows.proofs.Breaking.{goes_on, rows_begin, only_rows}
use Rattle.rows.proofs.Flags.{flag_ends_count, fit_flagged, begin_flagged}

module _ {A : Type 0} where
  in_rows : (cut : Cut A) (k : Kind A) (w : ℕ) (cs : List (Shown A)) → any no_space cs ≡ true → wrapped cut k w cs ≡ flag_ends k (rows_of cut w (trimmed cs))
  in_rows cut k w cs e = rw e

  alone : (cut : Cut A) (k : Kind A) (w : ℕ) (cs : List (Shown A)) → any no_space cs ≡ false → wrapped cut k w cs ≡ cs ∷ []
  alone cut k w cs e = rw e

  pub rejoins : Rejoins A
  rejoins cut proper k w cs e = rw (in_rows cut k w cs e) (record {
    rows = rows_of cut w (trimmed cs);
    cutting = rows_cutting cut proper w (trimmed cs);
    flags = refl;
    fits = fit_flagged k w (rows_of cut w (trimmed cs)) (rows_fit cut proper w (trimmed cs));
  })

  least : (k : Kind A) (w : ℕ) (cs : List (Shown A)) → Least k w cs (flag_ends k (rows_of greedy w (trimmed cs)))
  least k w cs = record {
    fewest = λ rows cut fits.
        let n = flag_ends_count k (rows_of greedy w (trimmed cs)) in
        let f = fewest w rows cut.filled fits in
        let e : length (rows_of greedy w (joined rows)) ≡ length (rows_of greedy w (trimmed cs)) = ap (λ xs. length (rows_of greedy w xs)) cut.joins in
        omega arith;
    breaks = record {
      begins = begin_flagged k w (rows_of greedy w (trimmed cs)) (rows_begin w (trimmed cs));
      goes_on = All-weaker (FitsOrOne w) _ (goes_on w) (flag_ends k (rows_of greedy w (trimmed cs)))
          (fit_flagged k w (rows_of greedy w (trimmed cs)) (rows_fit greedy greedy_proper w (trimmed cs)));
    };
    only = λ rows cut breaks. ap (flag_ends k) (sym (only_rows w (trimmed cs) rows cut breaks));
  }

  pub is_greedy : GreedyRows A
  is_greedy = record { proper = greedy_proper; least = λ k w cs e. rw (in_rows greedy k w cs e) (least k w cs) }

  no_words : (cs : List (Shown A)) → AllByRecursion (λ c. is_space c.text ≡ true) cs → any no_space cs ≡ false
  no_words [] h = refl
  no_words (c ∷ cs) h = ap (λ b. not b || any no_space cs) h.0 ∙ no_words cs h.1

  pub spaces_alone : Alone A
  spaces_alone cut k room w seqno s h =
      let e = no_words s.cells h in
      let a = alone cut k w s.cells e in
      record { alone = ap length a; cells = ap (λ rows. get_or rows 0 []) a; number = ap (λ b. cond b seqno s.number) e }
