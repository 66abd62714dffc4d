-- Lists of calls with compactions and expansions struck.
use Rattle.std.proofs.Common.{◌≡◌, List, [], ◌∷◌, None, Option, sym, refl, ap, ◌∙◌}
use Rattle.cells.specs.Cells.{Shown}
use Rattle.cells.specs.Kinds.{Kind}
use Rattle.cells.specs.declared.refusal.Refusal.{Refusal}
use Rattle.splitters.specs.Splits.{Splits}
use Rattle.rows.specs.Rows.{State, Room}
use Rattle.rows.specs.Calls.{Call, Alter, AppendLine, SplitOff, Ask, Compact, Expand, step, after, outcome, told, struck, heard}
use Rattle.rows.specs.PackingLaws.{Striking, Twinning}

module _ {A : Type 0} (k : Kind A) (p : Splits) (room : Room) (rule : List (Shown A) → Shown A → Option Refusal) where
  after_struck : (s : State A) (cs : List (Call A)) → after k p room s (struck cs) ≡ after k p room s cs
  after_struck s [] = refl
  after_struck s (Alter c ∷ cs) = after_struck (step k p room s (Alter c)) cs
  after_struck s (AppendLine other seqno ∷ cs) = after_struck (step k p room s (AppendLine other seqno)) cs
  after_struck s (SplitOff second idx seqno ∷ cs) = after_struck (step k p room s (SplitOff second idx seqno)) cs
  after_struck s (Ask question ∷ cs) = after_struck s cs
  after_struck s (Compact ∷ cs) = after_struck s cs
  after_struck s (Expand ∷ cs) = after_struck s cs

  told_struck : (s : State A) (cs : List (Call A)) → told k p room rule s (struck cs) ≡ heard cs (told k p room rule s cs)
  told_struck s [] = refl
  told_struck s (Alter c ∷ cs) = ap (λ os. outcome k p room rule s (Alter c) ∷ os) (told_struck (step k p room s (Alter c)) cs)
  told_struck s (AppendLine other seqno ∷ cs) = ap (λ os. outcome k p room rule s (AppendLine other seqno) ∷ os) (told_struck (step k p room s (AppendLine other seqno)) cs)
  told_struck s (SplitOff second idx seqno ∷ cs) = ap (λ os. outcome k p room rule s (SplitOff second idx seqno) ∷ os) (told_struck (step k p room s (SplitOff second idx seqno)) cs)
  told_struck s (Ask question ∷ cs) = ap (λ os. outcome k p room rule s (Ask question) ∷ os) (told_struck s cs)
  told_struck s (Compact ∷ cs) = told_struck s cs
  told_struck s (Expand ∷ cs) = told_struck s cs

  pub striking : Striking k p room rule
  striking = record { after_struck = after_struck; told_struck = told_struck }

module _ {A : Type 0} (k : Kind A) (p : Splits) (room : Room) where
  -- what is told without compactions does not depend on the store's rule
  told_apart : (mine other : List (Shown A) → Shown A → Option Refusal) (s : State A) (cs : List (Call A))
      → told k p room mine s (struck cs) ≡ told k p room other s (struck cs)
  told_apart mine other s [] = refl
  told_apart mine other s (Alter c ∷ cs) = ap (λ os. outcome k p room other s (Alter c) ∷ os) (told_apart mine other (step k p room s (Alter c)) cs)
  told_apart mine other s (AppendLine row seqno ∷ cs) =
      ap (λ os. outcome k p room other s (AppendLine row seqno) ∷ os) (told_apart mine other (step k p room s (AppendLine row seqno)) cs)
  told_apart mine other s (SplitOff second idx seqno ∷ cs) =
      ap (λ os. outcome k p room other s (SplitOff second idx seqno) ∷ os) (told_apart mine other (step k p room s (SplitOff second idx seqno)) cs)
  told_apart mine other s (Ask question ∷ cs) = ap (λ os. outcome k p room other s (Ask question) ∷ os) (told_apart mine other s cs)
  told_apart mine other s (Compact ∷ cs) = told_apart mine other s cs
  told_apart mine other s (Expand ∷ cs) = told_apart mine other s cs

  pub twinning : (s : State A) (cs ds : List (Call A)) → struck cs ≡ struck ds → Twinning k p room s cs ds
  twinning s cs ds e = record {
    leave = sym (after_struck k p room (λ _ _. None) s cs) ∙ ap (after k p room s) e ∙ after_struck k p room (λ _ _. None) s ds;
    hear = λ mine other.
        sym (told_struck k p room mine s cs) ∙ ap (told k p room mine s) e ∙ told_apart mine other s ds ∙ told_struck k p room other s ds;
  }
