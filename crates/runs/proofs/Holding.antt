-- Memory that holds cells: what is held is read back, one more cell, and one fewer.
use Rattle.std.specs.Prelude.{◌≡◌, ℕ, ◌+◌, ◌-◌, ◌<◌, ◌≤◌, Bool, true, false, cond, ◌||◌, List, [], ◌∷◌, ◌++◌, length, take, drop, Some, None, Ok, Err, vec_items, vec_len, vec_capacity, Option, Result, ◌==◌, nat_lt, refl}
use Rattle.std.proofs.Common.{sym, ap, ◌∙◌, subst, arith}
use Rattle.std.specs.List.{AllByRecursion}
use Rattle.std.proofs.ByRecursion.{All-push}
use Rattle.std.proofs.lemmas.List.{length-append, length_push, map_push, drop_at, append_cancel_right, take-append-drop}
use Rattle.std.proofs.lemmas.Bool.Decides.{nat_tests}
use Rattle.cells.specs.Cells.{Shown, meaning}
use Rattle.cells.specs.Kinds.{Kind}
use Rattle.cells.specs.Refusals.{first_of, verdict}
use Rattle.cells.specs.declared.cell.Cell.{Cell}
use Rattle.cells.specs.declared.refusal.Refusal.{Refusal}
use Rattle.cells.specs.declared.refusal.Refusal.TheVariants.{Fuses, Full}
use Rattle.cells.proofs.Refused.{none_fits}
use Rattle.splitters.specs.Pieces.{pieces, flat}
use Rattle.splitters.specs.Splits.{Splits}
use Rattle.splitters.proofs.Cutting.{flat_pieces}
use Rattle.rows.specs.Columns.{wide_at}
use Rattle.rows.specs.Givens.{cell_refusals}
use Rattle.rows.specs.Lists.{span}
use Rattle.rows.specs.Packing.{or_else, without_last, fuses, bytes_needed, runs_needed, lacks, run_rule}
use Rattle.rows.specs.Rows.{Panel, Edit, Done}
use Rattle.rows.specs.Spread.{wide, spread}
use Rattle.rows.proofs.Spans.{length_spread, span_append}
use Rattle.runs.specs.declared.memory.Memory.{Memory}
use Rattle.runs.specs.declared.run.Run.{Run}
use Rattle.runs.specs.Bits.{bits_of, ones_in}
use Rattle.runs.specs.Dressing.{width_by, dress, texts, last_text, last_piece}
use Rattle.runs.specs.Runs.{stretches, extend, shrink, total, same_runs, Apart, spread_out}
use Rattle.runs.specs.Sounds.{cells, refused, Holds, Sound, Packed}
use Rattle.runs.specs.Laws.{Worded, unmade, word, all_sized, dress_worded}
use Rattle.runs.proofs.Decoding.{cell_worded, width_wide, width_more, wide_past, wide_push, last_wide, marked_wide, read_back, span_any}
use Rattle.runs.proofs.Joining.{fuses_last, joined_pieces, rest_pieces}
use Rattle.runs.proofs.Stretching.{alike, even_from, stretches_push, stretches_filled, shrink_extend, stretches_apart, stretches_out, total_stretches, runs_length}

or_none : (o r : Option Refusal) → or_else o r ≡ None → (o ≡ None) × (r ≡ None)
or_none (Some why) r e = absurd cc
or_none None r e = (refl, e)

-- ---- a call that is refused
refused_as : (o : Option Refusal) (why : Refusal) → verdict {X = Unit {0}} o tt ≡ Err why → o ≡ Some why
refused_as None why e = cc
refused_as (Some w) why e = cc

pub stays : {A : Type 0} (e : Edit A) (s : Panel A) (r : Result (Unit {0}) Refusal) (why : Refusal) → r ≡ Err why → r ≡ verdict e.refusal tt → Done e s r s
stays e s r why h v =
    let o : e.refusal ≡ Some why = refused_as e.refusal why (sym v ∙ h) in
    record { says = v; row = rw o refl; change = rw o refl; room = refl }

pub goes_on : {A : Type 0} (e : Edit A) (s t : Panel A) (u : Unit {0}) → verdict e.refusal tt ≡ Ok u → t.cells ≡ e.cells → t.number ≡ e.number → t.sizes ≡ s.sizes → Done e s (Ok u) t
goes_on e s t u v c n z =
    let o : e.refusal ≡ None = (unmade e.refusal tt u v).0 in
    record { says = sym v; row = rw o c; change = rw o n; room = z }

-- ---- lists
without_push : {X : Type 0} (xs : List X) (x : X) → without_last (xs ++ (x ∷ [])) ≡ xs
without_push [] x = refl
without_push (y ∷ []) x = refl
without_push (y ∷ (z ∷ xs)) x = ap (λ u. y ∷ u) (without_push (z ∷ xs) x)

pub last_split : {X : Type 0} (xs : List X) → 0 < length xs → (x : X) × (xs ≡ without_last xs ++ (x ∷ []))
last_split [] l = absurd (omega arith)
last_split (x ∷ []) l = (x, refl)
last_split (x ∷ (y ∷ xs)) l = let r = last_split (y ∷ xs) (omega arith) in (r.0, ap (λ u. x ∷ u) r.1)

last_push : (ps : List (List ℕ)) (q : List ℕ) → last_piece (ps ++ (q ∷ [])) ≡ q
last_push [] q = refl
last_push (p ∷ []) q = refl
last_push (p ∷ (r ∷ ps)) q = last_push (r ∷ ps) q

flat_push : (ps : List (List ℕ)) (q : List ℕ) → length (flat (ps ++ (q ∷ []))) ≡ length (flat ps) + length q
flat_push [] q = let e = length-append q [] in omega arith
flat_push (r ∷ ps) q =
    let a = length-append r (flat (ps ++ (q ∷ []))) in
    let b = length-append r (flat ps) in
    let d = flat_push ps q in
    omega arith

module _ {A : Type 0} where
  texts_push : (cs : List (Shown A)) (c : Shown A) → texts (cs ++ (c ∷ [])) ≡ texts cs ++ (c.text ∷ [])
  texts_push cs c = map_push (λ (d : Shown A). d.text) cs c

  pub last_texts : (cs : List (Shown A)) → last_piece (texts cs) ≡ last_text cs
  last_texts [] = refl
  last_texts (c ∷ []) = refl
  last_texts (c ∷ (d ∷ cs)) = last_texts (d ∷ cs)

  last_text_push : (cs : List (Shown A)) (c : Shown A) → last_text (cs ++ (c ∷ [])) ≡ c.text
  last_text_push [] c = refl
  last_text_push (d ∷ []) c = refl
  last_text_push (d ∷ (e ∷ cs)) c = last_text_push (e ∷ cs) c

  bytes_flat : (cs : List (Shown A)) → bytes_needed cs ≡ length (flat (texts cs))
  bytes_flat [] = refl
  bytes_flat (c ∷ cs) = let e = bytes_flat cs in let d = length-append c.text (flat (texts cs)) in omega arith

  pub span_push : (cs : List (Shown A)) (c : Shown A) → span (cs ++ (c ∷ [])) ≡ span cs + c.width
  span_push cs c = let e = span_append cs (c ∷ []) in omega arith

  all_front : (P : Shown A → Type 0) (cs : List (Shown A)) (c : Shown A) → AllByRecursion P (cs ++ (c ∷ [])) → AllByRecursion P cs × P c
  all_front P [] c h = (tt, h.0)
  all_front P (d ∷ cs) c h = let r = all_front P cs c h.1 in ((h.0, r.0), r.1)

  last_few : (cs : List (Shown A)) → AllByRecursion Worded cs → length (last_text cs) ≤ 7
  last_few [] h = omega arith
  last_few (c ∷ []) h = (word c h.0).few
  last_few (c ∷ (d ∷ cs)) h = last_few (d ∷ cs) h.1

  module _ (p : Splits) where
    fuses_texts : (cs : List (Shown A)) (c : Shown A) → fuses_last p.first (texts cs) c.text ≡ fuses p cs c
    fuses_texts [] c = refl
    fuses_texts (d ∷ []) c = refl
    fuses_texts (d ∷ (e ∷ cs)) c = fuses_texts (e ∷ cs) c

    -- the fuse test, by the last text
    fuses_by : (cs : List (Shown A)) (c : Shown A) → 0 < length cs → fuses p cs c ≡ nat_lt (length (last_text cs)) (p.first (last_text cs ++ c.text))
    fuses_by [] c l = absurd (omega arith)
    fuses_by (d ∷ []) c l = refl
    fuses_by (d ∷ (e ∷ cs)) c l = fuses_by (e ∷ cs) c (omega arith)

    shown_worded : (s : Memory A) → AllByRecursion Worded (cells p s)
    shown_worded s = dress_worded (bits_of s.wide) (pieces p.first (vec_items s.text)) 0 (vec_items s.runs)

    pub last_short : (s : Memory A) → Sound p s → length (drop s.last (vec_items s.text)) ≤ 7
    last_short s h = subst (λ (u : List ℕ). length u ≤ 7) (sym h.ended) (last_few (cells p s) (shown_worded s))

    -- the same by the text behind the place where the last one begins
    pub fuses_behind_last : (s : Memory A) (c : Shown A) → Sound p s → 0 < s.count
        → fuses p (cells p s) c ≡ nat_lt (length (drop s.last (vec_items s.text))) (p.first (drop s.last (vec_items s.text) ++ c.text))
    fuses_behind_last s c h l =
        fuses_by (cells p s) c (omega (arith, h.counted)) ∙ ap (λ (u : List ℕ). nat_lt (length u) (p.first (u ++ c.text))) (sym h.ended)

    bytes_held : (t : List ℕ) (cs : List (Shown A)) → pieces p.first t ≡ texts cs → bytes_needed cs ≡ length t
    bytes_held t cs e = bytes_flat cs ∙ ap (λ ps. length (flat ps)) (sym e) ∙ ap length (flat_pieces p.first t)

    pub bytes_push : (t : List ℕ) (cs : List (Shown A)) (c : Shown A) → pieces p.first t ≡ texts cs → bytes_needed (cs ++ (c ∷ [])) ≡ length t + length c.text
    bytes_push t cs c e =
        bytes_flat (cs ++ (c ∷ [])) ∙ ap (λ ps. length (flat ps)) (texts_push cs c) ∙ flat_push (texts cs) c.text
        ∙ ap (λ n. n + length c.text) (sym (bytes_flat cs) ∙ bytes_held t cs e)

    pub runs_push : (k : Kind A) (rs : List (Run A)) (cs : List (Shown A)) (c : Shown A) → same_runs k rs (stretches k cs) ≡ true
        → runs_needed k (cs ++ (c ∷ [])) ≡ length (extend k rs c.attrs)
    runs_push k rs cs c e =
        runs_length k (cs ++ (c ∷ [])) ∙ ap length (stretches_push k cs c ∙ ap (λ u. extend k u c.attrs) (sym (alike k rs (stretches k cs) e)))

    -- memory that holds cells: they are read back, and whatever pieces its text had, its bits and runs give no more columns than there are
    pub record Kept (t : List ℕ) (last count : ℕ) (ws : List ℕ) (rs : List (Run A)) (cs : List (Shown A)) : Type 0 where
      pub sound : Holds p t last count ws rs (dress (bits_of ws) (pieces p.first t) 0 rs)
      pub row : dress (bits_of ws) (pieces p.first t) 0 rs ≡ cs
      pub columns : (ps : List (List ℕ)) → span (dress (bits_of ws) ps 0 rs) ≤ 4096

    kept : (k : Kind A) (t : List ℕ) (last count : ℕ) (ws : List ℕ) (rs : List (Run A)) (cs : List (Shown A))
        → Holds p t last count ws rs cs → AllByRecursion Worded cs → span cs ≤ 4096 → Kept t last count ws rs cs
    kept k t last count ws rs cs h w l =
        let e : rs ≡ stretches k cs = alike k rs (stretches k cs) (h.even k) in
        let m = marked_wide (bits_of ws) 0 cs (all_sized cs w) (λ j. let z : 0 + j ≡ j = omega arith in ap (bits_of ws) z ∙ h.marked j) in
        let b : dress (bits_of ws) (pieces p.first t) 0 rs ≡ cs =
        ap (λ ps. dress (bits_of ws) ps 0 rs) h.split ∙ ap (dress (bits_of ws) (texts cs) 0) e ∙ read_back k (bits_of ws) 0 cs w m in
        record {
          sound = subst (λ (u : List (Shown A)). Holds p t last count ws rs u) (sym b) h;
          row = b;
          columns = λ ps. let n = span_any k (bits_of ws) ps 0 cs m in subst (λ (u : List (Run A)). span (dress (bits_of ws) ps 0 u) ≤ 4096) (sym e) (omega arith);
        }

    -- ---- what sound memory is like
    pub packed : (k : Kind A) (s : Memory A) → Sound p s → Packed k p s
    packed k s h =
        let cs = cells p s in
        let e : vec_items s.runs ≡ stretches k cs = alike k (vec_items s.runs) (stretches k cs) (h.even k) in
        record {
          joined = sym (flat_pieces p.first (vec_items s.text)) ∙ ap flat h.split;
          apart = subst (Apart k) (sym e) (stretches_apart k cs);
          attributes = ap spread_out e ∙ stretches_out k cs;
          wide_bits = h.marked;
          columns = ap (λ (n : ℕ). n + ones_in s.wide) (sym h.counted) ∙ h.spanned;
        }

    pub needs_runs : (k : Kind A) (s : Memory A) → Sound p s → runs_needed k (cells p s) ≡ length (vec_items s.runs)
    needs_runs k s h = runs_length k (cells p s) ∙ ap length (sym (alike k (vec_items s.runs) (stretches k (cells p s)) (h.even k)))

    pub needs_bytes : (s : Memory A) → Sound p s → bytes_needed (cells p s) ≡ length (vec_items s.text)
    needs_bytes s h = bytes_held (vec_items s.text) (cells p s) h.split

    -- ---- no cell
    pub none_held : (k : Kind A) {t : List ℕ} {rs : List (Run A)} (ws : List ℕ) → t ≡ [] → rs ≡ [] → ((i : ℕ) → bits_of ws i ≡ false) → ones_in ws ≡ 0 → Kept t 0 0 ws rs []
    none_held k {t} {rs} ws et er eb eo =
        kept k t 0 0 ws rs []
        (record {
          good = ap p.good et ∙ p.empty;
          split = ap (pieces p.first) et;
          even = λ j. ap (λ (u : List (Run A)). same_runs j u []) er;
          ended = ap (drop 0) et;
          counted = refl;
          marked = eb;
          spanned = omega arith;
        })
        tt (omega arith)

    -- what lacks, as code tests it
    pub lacks_by : (k : Kind A) (s : Memory A) (c : Shown A) → Sound p s
        → lacks k s.most s.bytes (cells p s ++ (c ∷ []))
        ≡ (nat_lt s.most (length (extend k (vec_items s.runs) c.attrs)) || (nat_lt (s.bytes - length (vec_items s.text)) (length c.text) || nat_lt 4096 (span (cells p s) + c.width)))
    lacks_by k s c h =
        let a = runs_push k (vec_items s.runs) (cells p s) c (h.even k) in
        let b = bytes_push (vec_items s.text) (cells p s) c h.split in
        let d = span_push (cells p s) c in
        let w : length (vec_items s.text) ≤ s.bytes = omega (arith, s.within) in
        let e : nat_lt s.bytes (length (vec_items s.text) + length c.text) ≡ nat_lt (s.bytes - length (vec_items s.text)) (length c.text) = grind (arith, nat_tests) in
        cc

    -- ---- an accepted cell: no refusal fits
    pub record Accepted (k : Kind A) (s : Memory A) (c : Shown A) : Type 0 where
      pub good : p.good c.text ≡ true
      pub whole : p.first c.text ≡ length c.text
      pub apart : fuses p (cells p s) c ≡ false
      pub fits : length (vec_items s.text) + length c.text ≤ s.bytes
      pub runs : length (extend k (vec_items s.runs) c.attrs) ≤ s.most
      pub few : total (vec_items s.runs) ≤ 4096
      pub within : span (cells p s) + c.width ≤ 4096
      pub column : span (cells p s) < 4096

    pub accepted : (k : Kind A) (d : Cell A) {s m : Memory A} {r : Result (Unit {0}) Refusal} {u : Unit {0}}
        → s ≡ m → Sound p s → r ≡ verdict (refused k p m (meaning d)) tt → r ≡ Ok u → Accepted k s (meaning d)
    accepted k d {s} {m} {r} {u} es h v ok =
        let c : Shown A = meaning d in
        let cs = cells p s in
        let e : refused k p s c ≡ None = (unmade (refused k p s c) tt u (ap (λ (n : Memory A). verdict (refused k p n c) tt) es ∙ sym v ∙ ok)).0 in
        let o = or_none (first_of (cell_refusals p c)) (run_rule k p s.most s.bytes cs c) e in
        let n1 = none_fits (cell_refusals p c) o.0 in
        let n2 = none_fits ((fuses p cs c, Fuses) ∷ (lacks k s.most s.bytes (cs ++ (c ∷ [])), Full) ∷ []) o.1 in
        let l = sym (lacks_by k s c h) ∙ n2.1.0 in
        let w : length (vec_items s.text) ≤ s.bytes = omega (arith, s.within) in
        let f = ap total (alike k (vec_items s.runs) (stretches k cs) (h.even k)) ∙ total_stretches k cs ∙ sym h.counted in
        let m = width_more c (word c (cell_worded d)).sized in
        let n = h.spanned in
        record {
          good = grind (arith, n1.0);
          whole = grind (arith, nat_tests, n1.1.0);
          apart = n2.0;
          fits = grind (arith, nat_tests, l);
          runs = grind (arith, nat_tests, l);
          few = grind (arith, nat_tests, l);
          within = grind (arith, nat_tests, l);
          column = grind (arith, nat_tests, l);
        }

    -- an accepted cell is held behind the others
    pushed : (k : Kind A) (s : Memory A) (c : Shown A) (x : ℕ) (ws : List ℕ) → Sound p s → Worded c → Accepted k s c → x ≡ span (cells p s)
        → ((i : ℕ) → bits_of ws i ≡ cond (i == x) (wide c) (bits_of s.wide i))
        → ones_in ws + cond (bits_of s.wide x) 1 0 ≡ ones_in s.wide + cond (wide c) 1 0
        → Holds p (vec_items s.text ++ c.text) (length (vec_items s.text)) (s.count + 1) ws (extend k (vec_items s.runs) c.attrs) (cells p s ++ (c ∷ []))
    pushed k s c x ws h wc a ex eb eo =
        let cs = cells p s in
        let t = vec_items s.text in
        let z = all_sized cs (shown_worded s) in
        let q = word c wc in
        let l : length (spread cs) ≡ span cs = length_spread cs z in
        let b : bits_of s.wide x ≡ false = h.marked x ∙ wide_past (spread cs) x (omega arith) in
        let m = width_more c q.sized in
        let n = span_push cs c in
        let o = h.spanned in
        record {
          good = p.joined t c.text h.good a.good;
          split = joined_pieces p t c.text h.good a.good q.some a.whole (ap (λ ps. fuses_last p.first ps c.text) h.split ∙ fuses_texts cs c ∙ a.apart)
              ∙ ap (λ ps. ps ++ (c.text ∷ [])) h.split ∙ sym (texts_push cs c);
          even = even_from k (extend k (vec_items s.runs) c.attrs) (cs ++ (c ∷ []))
              (ap (λ u. extend k u c.attrs) (alike k (vec_items s.runs) (stretches k cs) (h.even k)) ∙ sym (stretches_push k cs c));
          ended = drop_at t c.text (length t) refl ∙ sym (last_text_push cs c);
          counted = ap (λ i. i + 1) h.counted ∙ sym (length_push cs c);
          marked = λ i. grind (arith, nat_tests, eb i, h.marked i, wide_push cs c z i);
          spanned = grind (arith, nat_tests);
        }

    -- what the memory is once an accepted cell was put behind the others: its text extended by the cell's, the bit of its column set by its width
    pub took : (k : Kind A) (d : Cell A) {s m : Memory A} {b : Bool} {t q : List ℕ} {last x w : ℕ} (ws : List ℕ) {rs : List (Run A)}
        → s ≡ m → Sound p s → Accepted k s (meaning d) → q ≡ (meaning d).text
        → (vec_len s.text + length q ≤ vec_capacity s.text → b ≡ true) → t ≡ cond b (vec_items s.text ++ q) (vec_items s.text)
        → last ≡ vec_len s.text → rs ≡ extend k (vec_items s.runs) d.attrs → x ≡ span (cells p m) → w ≡ (meaning d).width
        → ((i : ℕ) → bits_of ws i ≡ cond (i == x) (w == 2) (bits_of s.wide i))
        → ones_in ws + cond (bits_of s.wide x) 1 0 ≡ ones_in s.wide + cond (w == 2) 1 0
        → Kept t last (s.count + 1) ws rs (cells p s ++ (meaning d ∷ [])) × (length t ≤ s.bytes) × (length rs ≤ s.most) × (last ≤ length t)
    took k d {s} {m} {b} {t} {q} {last} {x} {w} ws {rs} es h a eq ok et el er ex ew eb eo =
        let c : Shown A = meaning d in
        let cs = cells p s in
        let lq = ap length eq in
        let lt : last ≡ length (vec_items s.text) = omega arith in
        let e : t ≡ vec_items s.text ++ c.text = rw (ok (omega (arith, a.fits)), eq) at et in
        let h1 = pushed k s c x ws h (cell_worded d) a (rw (← es) at ex) (rw ew at eb) (rw ew at eo) in
        let n = span_push cs c in
        let le = ap length e ∙ length-append (vec_items s.text) c.text in
        let lr = ap length er in (
          kept k t last (s.count + 1) ws rs (cs ++ (c ∷ [])) (rw (e, lt, er) h1) (All-push Worded cs c (shown_worded s) (cell_worded d)) (omega (arith, a.within)),
          omega (arith, a.fits),
          omega (arith, a.runs),
          omega arith,
        )

    -- ---- the last cell, where there is one: its width, by the bit two columns before the end
    record Last (s : Memory A) (cols w : ℕ) : Type 0 where
      pub cell : Shown A
      pub split : cells p s ≡ without_last (cells p s) ++ (cell ∷ [])
      pub worded : AllByRecursion Worded (without_last (cells p s) ++ (cell ∷ []))
      pub width : w ≡ cell.width
      pub columns : cols ≡ span (without_last (cells p s)) + cell.width

    last_cell : {s m : Memory A} {cols y w : ℕ} {on : Bool}
        → s ≡ m → Sound p s → 0 < s.count → cols ≡ span (cells p m) → y ≡ cols - 2 → on ≡ bits_of s.wide y → w ≡ width_by on → Last s cols w
    last_cell {s} {m} {cols} {y} {w} {on} es h l ec ey eon ew =
        let all = cells p s in
        let hc : s.count ≡ length all = h.counted in
        let sp = last_split all (omega arith) in
        let cs : List (Shown A) = without_last all in
        let c : Shown A = sp.0 in
        let e : all ≡ cs ++ (c ∷ []) = sp.1 in
        let wd : AllByRecursion Worded (cs ++ (c ∷ [])) = subst (λ (u : List (Shown A)). AllByRecursion Worded u) e (shown_worded s) in
        let wf = all_front Worded cs c wd in
        let q = (word c wf.1).sized in
        let cw : cols ≡ span cs + c.width = ec ∙ ap (λ (n : Memory A). span (cells p n)) (sym es) ∙ ap span e ∙ span_push cs c in
        let ey2 : y ≡ span cs + c.width - 2 = ey ∙ ap (λ (n : ℕ). n - 2) cw in
        record {
          cell = c;
          split = e;
          worded = wd;
          width = ew ∙ ap width_by (eon ∙ h.marked y ∙ ap (λ (u : List (Shown A)). wide_at y (spread u)) e
              ∙ ap (λ (n : ℕ). wide_at n (spread (cs ++ (c ∷ [])))) ey2 ∙ last_wide cs c (all_sized cs wf.0) q)
              ∙ width_wide c q;
          columns = cw;
        }

    pub last_within : {s m : Memory A} {cols y w : ℕ} {on : Bool}
        → s ≡ m → Sound p s → 0 < s.count → cols ≡ span (cells p m) → y ≡ cols - 2 → on ≡ bits_of s.wide y → w ≡ width_by on → w ≤ cols
    last_within es h l ec ey eon ew = let c = last_cell es h l ec ey eon ew in omega (arith, c.width, c.columns)

    dropped : (k : Kind A) (s : Memory A) (cols w last : ℕ) (ws : List ℕ) → Sound p s → Last s cols w
        → ((i : ℕ) → bits_of ws i ≡ cond (i == cols - w) false (bits_of s.wide i))
        → ones_in ws + cond (bits_of s.wide (cols - w)) 1 0 ≡ ones_in s.wide + 0
        → drop last (take s.last (vec_items s.text)) ≡ last_piece (pieces p.first (take s.last (vec_items s.text)))
        → Holds p (take s.last (vec_items s.text)) last (s.count - 1) ws (shrink (vec_items s.runs)) (without_last (cells p s))
    dropped k s cols w last ws h0 l eb eo el =
        let t = vec_items s.text in
        let rs = vec_items s.runs in
        let cs : List (Shown A) = without_last (cells p s) in
        let c : Shown A = l.cell in
        let h : Holds p t s.last s.count s.wide rs (cs ++ (c ∷ [])) = subst (λ (u : List (Shown A)). Holds p t s.last s.count s.wide rs u) l.split h0 in
        let wd = all_front Worded cs c l.worded in
        let z = all_sized cs wd.0 in
        let r = rest_pieces p t h.good in
        let ps : pieces p.first t ≡ texts cs ++ (c.text ∷ []) = h.split ∙ texts_push cs c in
        let wo : without_last (pieces p.first t) ≡ texts cs = ap without_last ps ∙ without_push (texts cs) c.text in
        let la : last_piece (pieces p.first t) ≡ c.text = ap last_piece ps ∙ last_push (texts cs) c.text in
        let whole : t ≡ flat (texts cs) ++ c.text =
        sym (flat_pieces p.first t) ∙ r.whole ∙ ap (λ (us : List (List ℕ)). flat us ++ last_piece (pieces p.first t)) wo ∙ ap (λ u. flat (texts cs) ++ u) la in
        let te : take s.last t ≡ flat (texts cs) =
        append_cancel_right (take s.last t) (flat (texts cs)) c.text
        (ap (λ u. take s.last t ++ u) (sym (h.ended ∙ last_text_push cs c)) ∙ take-append-drop s.last t ∙ whole) in
        let fe : flat (without_last (pieces p.first t)) ≡ take s.last t = ap flat wo ∙ sym te in
        let sp : pieces p.first (take s.last t) ≡ texts cs = ap (pieces p.first) (sym fe) ∙ r.split ∙ wo in
        let x : cols - w ≡ span cs = omega (arith, l.width, l.columns) in
        let ls : length (spread cs) ≡ span cs = length_spread cs z in
        let none : wide_at (cols - w) (spread cs) ≡ false = wide_past (spread cs) (cols - w) (omega arith) in
        let m = width_more c (word c wd.1).sized in
        let n = span_push cs c in
        let lp = length_push cs c in
        let hc = h.counted in
        let hs = h.spanned in
        record {
          good = ap p.good (sym fe) ∙ r.good;
          split = sp;
          even = even_from k (shrink rs) cs
              (ap shrink (alike k rs (stretches k (cs ++ (c ∷ []))) (h.even k) ∙ stretches_push k cs c) ∙ shrink_extend k (stretches k cs) c.attrs (stretches_filled k cs));
          ended = el ∙ ap last_piece sp ∙ last_texts cs;
          counted = omega arith;
          marked = λ i. grind (arith, nat_tests, eb i, h.marked i, wide_push cs c z i);
          spanned = grind (arith, nat_tests, h.marked (cols - w), wide_push cs c z (cols - w));
        }

    -- what the memory is once the last cell went: its text cut where the last one began, the bit of its column cleared
    pub lost : (k : Kind A) {s m : Memory A} {cols y w : ℕ} {on : Bool} {t a : List ℕ} (last : ℕ) (ws : List ℕ) {rs : List (Run A)}
        → s ≡ m → Sound p s → 0 < s.count → cols ≡ span (cells p m) → y ≡ cols - 2 → on ≡ bits_of s.wide y → w ≡ width_by on
        → t ≡ take s.last (vec_items s.text) → rs ≡ shrink (vec_items s.runs)
        → ((i : ℕ) → bits_of ws i ≡ cond (i == cols - w) false (bits_of s.wide i))
        → ones_in ws + cond (bits_of s.wide (cols - w)) 1 0 ≡ ones_in s.wide + 0
        → a ≡ t → drop last a ≡ last_piece (pieces p.first a)
        → Kept t last (s.count - 1) ws rs (without_last (cells p s))
    lost k {s} {m} {cols} {y} {w} {on} {t} {a} last ws {rs} es h l ec ey eon ew et er eb eo ea el =
        let c = last_cell es h l ec ey eon ew in
        let h1 = dropped k s cols w last ws h c eb eo (rw (ea, et) at el) in
        let n = s.columns (pieces p.first (vec_items s.text)) in
        let d : cols ≡ span (cells p s) = rw (← es) at ec in
        kept k t last (s.count - 1) ws rs (without_last (cells p s)) (rw (et, er) h1)
        (all_front Worded (without_last (cells p s)) c.cell c.worded).0 (omega (arith, c.columns))
