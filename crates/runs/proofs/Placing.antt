-- A piece from any place in a text, and the runs behind a cell.
use Rattle.std.proofs.Common.{◌≡◌, ℕ, zero, suc, ◌+◌, ◌-◌, ◌<◌, ◌≤◌, Bool, false, cond, ltb, List, [], ◌∷◌, length, get_or, take, drop, Ok, sym, refl, ap, ◌∙◌, subst, arith}
use Rattle.std.proofs.lemmas.List.{drop_more, drop_all, length-drop}
use Rattle.std.specs.Prelude.{vec_items}
use Rattle.std.proofs.lemmas.Bool.Decides.{nat_tests}
use Rattle.splitters.specs.Pieces.{pieces}
use Rattle.splitters.specs.Splits.{Splits}
use Rattle.cells.specs.Cleaning.{clean}
use Rattle.cells.specs.Words.{Text, made}
use Rattle.runs.specs.declared.memory.Memory.{Memory}
use Rattle.runs.specs.declared.place.Place.{Place}
use Rattle.runs.specs.declared.run.Run.{Run}
use Rattle.runs.specs.Bits.{bits_of}
use Rattle.runs.specs.Dressing.{width_by, shows, dress, last_piece}
use Rattle.runs.specs.Runs.{run, past, begun}
use Rattle.runs.specs.Sounds.{left_at}
use Rattle.runs.proofs.Decoding.{dress_far}
use Rattle.runs.proofs.Joining.{filled}

module _ {A : Type 0} where
  here : (rs : List (Run A)) (i : ℕ) (r : Run A) → i < length rs → r ≡ get_or rs i r → drop i rs ≡ r ∷ drop (i + 1) rs
  here rs i r h e = drop_more rs i r h ∙ ap (λ u. u ∷ drop (i + 1) rs) (sym e)

  pub run_here : (l i : ℕ) (rs : List (Run A)) (r : Run A) → i < length rs → r ≡ get_or rs i r → begun l (drop i rs) ≡ run l r.attrs ∷ drop (i + 1) rs
  run_here l i rs r h e = ap (begun l) (here rs i r h e)

  pub past_leaves : (l i : ℕ) (rs : List (Run A)) → i < length rs → l ≤ 1 → past (begun l (drop i rs)) ≡ drop (i + 1) rs
  past_leaves l i [] h g = absurd (omega arith)
  past_leaves l zero (r ∷ rs) h g = grind (arith, nat_tests)
  past_leaves l (suc i) (r ∷ rs) h g = let e : suc i + 1 ≡ suc (i + 1) = omega arith in rw e (past_leaves l i rs (omega arith) g)

  -- nothing is left where no piece or no run is
  pub dress_none : (bits : ℕ → Bool) (ps : List (List ℕ)) (x l : ℕ) (rs : List (Run A)) (i : ℕ) → length rs ≤ i → dress bits ps x (begun l (drop i rs)) ≡ []
  dress_none bits [] x l rs i h = refl
  dress_none bits (p ∷ ps) x l rs i h = ap (λ v. dress bits (p ∷ ps) x (begun l v)) (drop_all i rs h)

  -- a reader's step with what code found: where the piece ends, the bit, the run, the next column, and the runs left
  step_shows : (f : List ℕ → ℕ) (bits : ℕ → Bool) (t : List ℕ) (b x i l e w y : ℕ) (q : List ℕ) (rs us : List (Run A)) (r : Run A)
      → ((k : ℕ) → 4096 ≤ k → bits k ≡ false)
      → pieces f (drop b t) ≡ q ∷ pieces f (drop e t) → i < length rs → r ≡ get_or rs i r → w ≡ width_by (bits x)
      → y ≡ cond (ltb x 4096) (x + w) x → us ≡ past (begun l (drop i rs))
      → dress bits (pieces f (drop b t)) x (begun l (drop i rs)) ≡ shows (made (clean q) w) r.attrs (dress bits (pieces f (drop e t)) y us)
  step_shows f bits t b x i l e w y q rs us r far s h d ew ey eu =
      let here : begun l (drop i rs) ≡ run l r.attrs ∷ drop (i + 1) rs = run_here l i rs r h d in
      let next : dress bits (pieces f (drop e t)) (x + w) us ≡ dress bits (pieces f (drop e t)) y us =
      grind (arith, nat_tests, dress_far bits far (pieces f (drop e t)) (x + w) y us) in
      let u : us ≡ past (run l r.attrs ∷ drop (i + 1) rs) = eu ∙ ap past here in
      rw (s, here, ← ew, ← u, next) refl

  -- the same at a memory: the cell, and what is left behind it
  pub stepped : (p : Splits) {s m : Memory A} (at b : Place) (r : Run A) {t u : List ℕ} {rs : List (Run A)} {e w : ℕ} {on : Bool} {v : Text}
      → s ≡ m → ((k : ℕ) → 4096 ≤ k → bits_of s.wide k ≡ false)
      → t ≡ vec_items s.text → pieces p.first (drop at.byte t) ≡ take (e - at.byte) (drop at.byte t) ∷ pieces p.first (drop e t)
      → u ≡ vec_items s.text → made (clean (take (e - at.byte) (drop at.byte u))) w ≡ Ok v
      → rs ≡ vec_items s.runs → at.run < length rs → r ≡ get_or rs at.run r
      → on ≡ bits_of s.wide at.column → w ≡ width_by on
      → b.byte ≡ e → b.column ≡ cond (ltb at.column 4096) (at.column + w) at.column
      → begun b.left (drop b.run (vec_items s.runs)) ≡ past (begun at.left (drop at.run (vec_items s.runs)))
      → left_at p m at ≡ record { text = v.text; width = v.width; attrs = r.attrs } ∷ left_at p m b
  stepped p {s} {m} at b r {t} {u} {rs} {e} {w} {on} {v} es far et sp eu en er l lr eon ew eb ec ers =
      let f = p.first in
      let ts = vec_items s.text in
      let left = begun b.left (drop b.run (vec_items s.runs)) in
      rw (← es) (
      step_shows f (bits_of s.wide) ts at.byte at.column at.run at.left e w b.column (take (e - at.byte) (drop at.byte ts)) (vec_items s.runs) left r far
      (subst (λ (x : List ℕ). pieces f (drop at.byte x) ≡ take (e - at.byte) (drop at.byte x) ∷ pieces f (drop e x)) et sp)
      (subst (λ (x : List (Run A)). at.run < length x) er l) (subst (λ (x : List (Run A)). r ≡ get_or x at.run r) er lr)
      (ew ∙ ap width_by eon) ec ers
      ∙ ap (λ o. shows o r.attrs (dress (bits_of s.wide) (pieces f (drop e ts)) b.column left))
      (subst (λ (x : List ℕ). made (clean (take (e - at.byte) (drop at.byte x))) w ≡ Ok v) eu en)
      ∙ ap (λ (j : ℕ). record { text = v.text; width = v.width; attrs = r.attrs } ∷ dress (bits_of s.wide) (pieces f (drop j ts)) b.column left) (sym eb))

-- ---- the last piece
last_skip : (q : List ℕ) (ps : List (List ℕ)) → 0 < length ps → last_piece (q ∷ ps) ≡ last_piece ps
last_skip q [] l = absurd (omega arith)
last_skip q (p ∷ ps) l = refl

pub last_more : (f : List ℕ → ℕ) (t : List ℕ) (b e : ℕ) → pieces f (drop b t) ≡ take (e - b) (drop b t) ∷ pieces f (drop e t) → e < length t
    → last_piece (pieces f (drop b t)) ≡ last_piece (pieces f (drop e t))
last_more f t b e s h =
    let l : length (drop e t) ≡ length t - e = length-drop e t in
    ap last_piece s ∙ last_skip (take (e - b) (drop b t)) (pieces f (drop e t)) (filled f (length (drop e t)) (drop e t) (omega arith) (omega arith))
