-- Reading a text is deriving it by the grammar.
-- by_number  what holds of the bytes of a character, by how many they are
-- value      the code point of a character's bytes
-- reads      a text that begins with a character is read by it
-- view       what is read is a character of the grammar
-- split      a text is characters up to a place where none begins
-- exact      a text is good exactly if the grammar derives it
use Rattle.std.proofs.Common.{◌≡◌, ℕ, zero, suc, pred, ◌≤◌, ◌<◌, true, ◌&&◌, leb, List, [], ◌∷◌, ◌++◌, length, drop, Some, None, Decides, Option, sym, refl, ap, ◌∙◌, subst, arith}
use Rattle.std.proofs.lemmas.List.{append_assoc, append-nil, length-append, drop_at}
use Rattle.std.proofs.lemmas.Bool.{cond_both, leb-true}
use Rattle.std.proofs.lemmas.Bool.Decides.{nat_tests}
use Rattle.utf8_text.specs.Rfc3629.{Utf8Char, Utf8Octets}
use Rattle.utf8_text.specs.Rfc3629.Utf8Char.{utf8_1, utf8_2, utf8_3_e0, utf8_3_e1, utf8_3_ed, utf8_3_ee, utf8_4_f0, utf8_4_f1, utf8_4_f4}
use Rattle.utf8_text.specs.Rfc3629.Utf8Octets.{none, more}
use Rattle.utf8_text.specs.Reading.{tail, begins_2, begins_3, begins_4, point_2, point_3, point_4, two, three, four, first_point}
use Rattle.utf8_text.specs.Reading.{points, good}
use Rattle.utf8_text.specs.Pieces.{size, sizes}

pub by_number : {s : List ℕ} → Utf8Char s → (P : List ℕ → Type 0) → ((a : ℕ) → a ≤ 0x7F → P (a ∷ []))
    → ((a b : ℕ) → begins_2 a b ≡ true → P (a ∷ (b ∷ [])))
    → ((a b c : ℕ) → (begins_3 a b && tail c) ≡ true → P (a ∷ (b ∷ (c ∷ []))))
    → ((a b c d : ℕ) → (begins_4 a b && (tail c && tail d)) ≡ true → P (a ∷ (b ∷ (c ∷ (d ∷ []))))) → P s
by_number (utf8_1 {a} h) = λ P f _ _ _. f a h.1
by_number (utf8_2 {a} {b} h p) = let e : begins_2 a b ≡ true = grind (arith, nat_tests) in λ P _ f _ _. f a b e
by_number (utf8_3_e0 {a} {b} {c} h p q) = let e : (begins_3 a b && tail c) ≡ true = grind (arith, nat_tests) in λ P _ _ f _. f a b c e
by_number (utf8_3_e1 {a} {b} {c} h p q) = let e : (begins_3 a b && tail c) ≡ true = grind (arith, nat_tests) in λ P _ _ f _. f a b c e
by_number (utf8_3_ed {a} {b} {c} h p q) = let e : (begins_3 a b && tail c) ≡ true = grind (arith, nat_tests) in λ P _ _ f _. f a b c e
by_number (utf8_3_ee {a} {b} {c} h p q) = let e : (begins_3 a b && tail c) ≡ true = grind (arith, nat_tests) in λ P _ _ f _. f a b c e
by_number (utf8_4_f0 {a} {b} {c} {d} h p q r) =
    let e : (begins_4 a b && (tail c && tail d)) ≡ true = grind (arith, nat_tests) in λ P _ _ _ f. f a b c d e
by_number (utf8_4_f1 {a} {b} {c} {d} h p q r) =
    let e : (begins_4 a b && (tail c && tail d)) ≡ true = grind (arith, nat_tests) in λ P _ _ _ f. f a b c d e
by_number (utf8_4_f4 {a} {b} {c} {d} h p q r) =
    let e : (begins_4 a b && (tail c && tail d)) ≡ true = grind (arith, nat_tests) in λ P _ _ _ f. f a b c d e

abbrev pub value : List ℕ → ℕ
value [] = 0
value (a ∷ []) = a
value (a ∷ (b ∷ [])) = point_2 a b
value (a ∷ (b ∷ (c ∷ []))) = point_3 a b c
value (a ∷ (b ∷ (c ∷ (d ∷ t)))) = point_4 a b c d

pub value_size : {s : List ℕ} (ch : Utf8Char s) → size (value s) ≡ length s
value_size ch =
    by_number ch (λ s. size (value s) ≡ length s) (λ a h. grind (arith, nat_tests)) (λ a b h. grind (arith, nat_tests))
    (λ a b c h. grind (arith, nat_tests)) (λ a b c d h. grind (arith, nat_tests))

pub reads : {s : List ℕ} (ch : Utf8Char s) (t : List ℕ) → first_point (s ++ t) ≡ Some (value s, length s)
reads ch t =
    by_number ch (λ s. first_point (s ++ t) ≡ Some (value s, length s)) (λ a h. grind (arith, nat_tests)) (λ a b h. grind (arith, nat_tests))
    (λ a b c h. grind (arith, nat_tests)) (λ a b c d h. grind (arith, nat_tests))

pub size_some : (c : ℕ) → 0 < size c
size_some c = grind (arith, nat_tests)

pub record View (t : List ℕ) (p : ℕ × ℕ) : Type 0 where
  pub bytes : List ℕ
  pub behind : List ℕ
  pub char : Utf8Char bytes
  pub parts : t ≡ bytes ++ behind
  pub point : p.0 ≡ value bytes
  pub number : p.1 ≡ length bytes

char_3 : (a b c : ℕ) → (begins_3 a b && tail c) ≡ true → Utf8Char (a ∷ (b ∷ (c ∷ [])))
char_3 a b c e = grind (arith, nat_tests, utf8_3_e0, utf8_3_e1, utf8_3_ed, utf8_3_ee)

char_4 : (a b c d : ℕ) → (begins_4 a b && (tail c && tail d)) ≡ true → Utf8Char (a ∷ (b ∷ (c ∷ (d ∷ []))))
char_4 a b c d e = grind (arith, nat_tests, utf8_4_f0, utf8_4_f1, utf8_4_f4)

view_4 : (a b c : ℕ) (t : List ℕ) (p : ℕ × ℕ) → four a b c t ≡ Some p → View (a ∷ (b ∷ (c ∷ t))) p
view_4 a b c [] p = λ e. cc
view_4 a b c (d ∷ t) p =
    cond_both (begins_4 a b && (tail c && tail d)) _ _ (λ o. o ≡ Some p → View (a ∷ (b ∷ (c ∷ (d ∷ t)))) p)
    (λ x e.
    let h = char_4 a b c d x in
    record { bytes = a ∷ (b ∷ (c ∷ (d ∷ []))); behind = t; char = h; parts = refl; point = cc; number = cc })
    (λ x e. cc)

view_3 : (a b : ℕ) (t : List ℕ) (p : ℕ × ℕ) → three a b t ≡ Some p → View (a ∷ (b ∷ t)) p
view_3 a b [] p = λ e. cc
view_3 a b (c ∷ t) p =
    cond_both (begins_3 a b && tail c) _ _ (λ o. o ≡ Some p → View (a ∷ (b ∷ (c ∷ t))) p)
    (λ x e.
    let h = char_3 a b c x in
    record { bytes = a ∷ (b ∷ (c ∷ [])); behind = t; char = h; parts = refl; point = cc; number = cc })
    (λ x e. view_4 a b c t p e)

view_2 : (a : ℕ) (t : List ℕ) (p : ℕ × ℕ) → two a t ≡ Some p → View (a ∷ t) p
view_2 a [] p = λ e. cc
view_2 a (b ∷ t) p =
    cond_both (begins_2 a b) _ _ (λ o. o ≡ Some p → View (a ∷ (b ∷ t)) p)
    (λ x e.
    record { bytes = a ∷ (b ∷ []); behind = t; char = utf8_2 (grind (arith, nat_tests)) (grind (arith, nat_tests)); parts = refl; point = cc; number = cc })
    (λ x e. view_3 a b t p e)

pub view : (t : List ℕ) (p : ℕ × ℕ) → first_point t ≡ Some p → View t p
view [] p = λ e. cc
view (a ∷ t) p =
    cond_both (leb a 0x7F) _ _ (λ o. o ≡ Some p → View (a ∷ t) p)
    (λ x e. record { bytes = a ∷ []; behind = t; char = utf8_1 (omega arith, leb-true a 0x7F x); parts = refl; point = cc; number = cc })
    (λ x e. view_2 a t p e)

-- ---- one character more
pub good_more : {s : List ℕ} (ch : Utf8Char s) (t : List ℕ) → good (s ++ t) ≡ good t
good_more ch t =
    by_number ch (λ s. good (s ++ t) ≡ good t) (λ a h. grind (arith, nat_tests)) (λ a b h. grind (arith, nat_tests))
    (λ a b c h. grind (arith, nat_tests)) (λ a b c d h. grind (arith, nat_tests))

pub points_more : {s : List ℕ} (ch : Utf8Char s) (t : List ℕ) → points (s ++ t) ≡ value s ∷ points t
points_more ch t =
    by_number ch (λ s. points (s ++ t) ≡ value s ∷ points t) (λ a h. grind (arith, nat_tests)) (λ a b h. grind (arith, nat_tests))
    (λ a b c h. grind (arith, nat_tests)) (λ a b c d h. grind (arith, nat_tests))

-- ---- texts joined
pub good_append : {s : List ℕ} → Utf8Octets s → (t : List ℕ) → good (s ++ t) ≡ good t
good_append none t = refl
good_append (more {s = s} {t = u} ch o) t = ap good (append_assoc s u t) ∙ (good_more ch (u ++ t) ∙ good_append o t)

pub points_append : {s : List ℕ} → Utf8Octets s → (t : List ℕ) → points (s ++ t) ≡ points s ++ points t
points_append none t = refl
points_append (more {s = s} {t = u} ch o) t =
    let i = points_append o t in
    let m = points_more ch (u ++ t) in
    let n = points_more ch u in
    let a = append_assoc s u t in
    cc

pub points_sizes : {s : List ℕ} → Utf8Octets s → sizes (points s) ≡ length s
points_sizes none = refl
points_sizes (more {s = s} {t = u} ch o) =
    let i = points_sizes o in
    let v = value_size ch in
    let l = length-append s u in
    ap sizes (points_more ch u) ∙ omega arith

-- ---- a text up to where no character begins
pub record Split (t : List ℕ) : Type 0 where
  pub front : List ℕ
  pub back : List ℕ
  pub parts : t ≡ front ++ back
  pub chars : Utf8Octets front
  pub stop : first_point back ≡ None

split_by : (b : ℕ) (t : List ℕ) (o : Option (ℕ × ℕ)) → first_point (b ∷ t) ≡ o → ((n : ℕ) → Split (drop n t)) → Split (b ∷ t)
split_by b t None e f = record { front = []; back = b ∷ t; parts = refl; chars = none; stop = e }
split_by b t (Some p) e f =
    let v = view (b ∷ t) p e in
    let i = f (pred p.1) in
    let m : suc (pred p.1) ≡ length v.bytes = omega (arith, v.number, value_size v.char, size_some (value v.bytes)) in
    let d : drop (pred p.1) t ≡ v.behind = ap (λ k. drop k (b ∷ t)) m ∙ (ap (drop (length v.bytes)) v.parts ∙ drop_at v.bytes v.behind (length v.bytes) refl) in
    record {
      front = v.bytes ++ i.front;
      back = i.back;
      parts = v.parts ∙ (ap (λ x. v.bytes ++ x) (sym d ∙ i.parts) ∙ sym (append_assoc v.bytes i.front i.back));
      chars = more v.char i.chars;
      stop = i.stop;
    }

split_past : (n : ℕ) (t : List ℕ) → Split (drop n t)
split_past zero [] = record { front = []; back = []; parts = refl; chars = none; stop = refl }
split_past (suc n) [] = record { front = []; back = []; parts = refl; chars = none; stop = refl }
split_past (suc n) (b ∷ t) = split_past n t
split_past zero (b ∷ t) = split_by b t (first_point (b ∷ t)) refl (λ n. split_past n t)

pub split : (t : List ℕ) → Split t
split t = split_past 0 t

-- ---- good is derived
pub derived_good : {t : List ℕ} → Utf8Octets t → good t ≡ true
derived_good none = refl
derived_good (more {s} {t} ch o) = good_more ch t ∙ derived_good o

whole : (s u : List ℕ) → Utf8Octets s → first_point u ≡ None → good (s ++ u) ≡ true → Utf8Octets (s ++ u)
whole s [] o e g = rw append-nil o
whole s (b ∷ u) o e g = let a = good_append o (b ∷ u) in cc

pub derived : (t : List ℕ) → good t ≡ true → Utf8Octets t
derived t g =
    let s = split t in
    subst Utf8Octets (sym s.parts) (whole s.front s.back s.chars s.stop (ap good (sym s.parts) ∙ g))

pub exact : (t : List ℕ) → Decides (good t) (Utf8Octets t)
exact t = (derived t, derived_good)
