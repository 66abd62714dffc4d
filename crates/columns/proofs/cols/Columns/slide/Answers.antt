use Rattle.std.proofs.Common.{◌≡◌, ℕ, ◌-◌, ◌<◌, ◌≤◌, true, false, not, ◌&&◌, ltb, leb, List, ◌∷◌, ◌++◌, length, take, drop, sym, refl, ap, ◌∙◌, arith}
use Rattle.std.proofs.lemmas.Bool.{ltb-true, leb-true, and_parts, not-true}
use Rattle.std.proofs.lemmas.List.{take-map, drop-map}
use Rattle.cells.specs.Cells.{Shown, meaning}
use Rattle.cells.specs.Kinds.{Kind}
use Rattle.cells.specs.declared.cell.Cell.{Cell}
use Rattle.rows.specs.Spread.{wide}
use Rattle.rows.specs.Columns.{between}
use Rattle.rows.specs.Edits.{made_room}
use Rattle.columns.specs.Cols.{columns}
use Rattle.columns.proofs.Means.{length_cols, cols_put}
use Rattle.columns.proofs.Moved.{moved}
use Rattle.columns.proofs.Seconds.{slid}
use Rattle.columns.proofs.cols.Columns.slide.Goals as goal

module _ {A : Type 0} (x m n : ℕ) (d : Shown A) (e : (ltb x m && (leb m n && not (wide d))) ≡ true) where
  before : x < m
  before = ltb-true x m (and_parts (ltb x m) (leb m n && not (wide d)) e).0

  within : m ≤ n
  within = leb-true m n (and_parts (leb m n) (not (wide d)) (and_parts (ltb x m) (leb m n && not (wide d)) e).1).0

  narrow : wide d ≡ false
  narrow = not-true (wide d) (and_parts (leb m n) (not (wide d)) (and_parts (ltb x m) (leb m n && not (wide d)) e).1).1

-- the columns once the middle was moved
row : {A : Type 0} (k : Kind A) (xs d last : List (Cell A)) (n x m : ℕ) (c : Cell A) → (ltb x m && (leb m (length (columns xs)) && not (wide (meaning c)))) ≡ true
    → length d ≡ n → d ≡ xs → last ≡ take (length (take (m - x) (drop x d))) (c ∷ take (m - x) (drop x d))
    → columns (take n ((take x d ++ (last ++ drop (m - x) (drop x d))) ++ drop (length (take x d ++ (last ++ drop (m - x) (drop x d)))) xs))
    ≡ between x (meaning c) (made_room k x m (columns xs))
row k xs d last n x m c t l e f =
    let b = before x m (length (columns xs)) (meaning c) t in
    let h = within x m (length (columns xs)) (meaning c) t in
    let q = length_cols xs in
    let z = ap length e in
    ap columns (moved xs d last n x m c l e (omega arith) (omega arith) f)
    ∙ cols_put x m (take (m - x) (c ∷ drop x xs)) xs xs
    ∙ ap (λ v. take x (columns xs) ++ (v ++ drop m (columns xs))) (sym (take-map meaning (m - x) (c ∷ drop x xs)) ∙ ap (λ v. take (m - x) (meaning c ∷ v)) (sym (drop-map meaning x xs)))
    ∙ (slid k x m (meaning c) (columns xs) b h (narrow x m (length (columns xs)) (meaning c) t))

pub returns : goal.returns
returns g c =
    let v = c.args.self.now.cells in
    record {
      row = row g.A.Attributes.kind v.items c.deref_mut.result.now c.shift.new.s v.len c.args.x c.args.margin c.args.c.now c.requires c.deref_mut.ensures.len c.deref_mut.ensures.value c.shift.ensures;
      limit = refl;
      memory = refl;
    }
