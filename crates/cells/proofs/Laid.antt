-- A word from its bytes, and its bytes again.
use Rattle.std.proofs.Common.{◌≡◌, ℕ, zero, suc, ◌+◌, ◌-◌, ◌*◌, ◌/◌, ◌%◌, ◌^◌, ◌<◌, ◌≤◌, eqb, List, [], ◌∷◌, length, get_or, drop, take, ◌++◌, sym, refl, ap, ◌∙◌, subst, ⊎_elim, le_of_suc-le-suc, not-suc-le-zero, div-one, arith, pow_mono}
use lib.Bits.{bit_and, bit_or, and_mask, or_shifted, or_block, or_zero_r, and_high}
use lib.Count.{count_leading_zeros}
use Rattle.std.specs.Int.{byte_at, bytes_low_first}
use Rattle.std.proofs.lemmas.Nat.{pow_pos, pow-add, shr-shr, leading_top}
use Rattle.std.proofs.lemmas.List.{get_or-drop, get_or_at, take_at, drop_at, length-append, append_assoc, take-append-drop}
use Rattle.std.proofs.lemmas.Bool.{cases_lt, ne_eqb}
use Rattle.std.proofs.lemmas.Bool.Decides.{nat_tests}
use Rattle.cells.specs.Words.{value, word_of, up_to, bytes_in, text_of, width_of, same_bytes, spelled, Bits}

-- no byte is zero
abbrev pub Solid : List ℕ → Type 0
Solid [] = Unit {0}
Solid (b ∷ bs) = (0 < b) × Solid bs

abbrev pub Bytes : List ℕ → Type 0
Bytes bs = (i : ℕ) → get_or bs i 0 < 256

-- ---- the bytes of a number
up_to_length : (b : ℕ) (t : List ℕ) → length (up_to b t) ≤ suc (length t)
up_to_length zero t = omega arith
up_to_length (suc b) t = omega arith

pub in_length : (k n : ℕ) → length (bytes_in k n) ≤ k
in_length zero n = omega arith
in_length (suc k) n = let e = in_length k (n / 256) in let d = up_to_length (n % 256) (bytes_in k (n / 256)) in omega arith

up_to_solid : (b : ℕ) (t : List ℕ) → Solid t → Solid (up_to b t)
up_to_solid zero t s = tt
up_to_solid (suc b) t s = (omega arith, s)

pub in_solid : (k n : ℕ) → Solid (bytes_in k n)
in_solid zero n = tt
in_solid (suc k) n = up_to_solid (n % 256) (bytes_in k (n / 256)) (in_solid k (n / 256))

up_to_bytes : (b : ℕ) (t : List ℕ) → b < 256 → Bytes t → Bytes (up_to b t)
up_to_bytes zero t h f i = omega arith
up_to_bytes (suc b) t h f zero = h
up_to_bytes (suc b) t h f (suc i) = f i

pub in_bytes : (k n : ℕ) → Bytes (bytes_in k n)
in_bytes zero n i = omega arith
in_bytes (suc k) n i = up_to_bytes (n % 256) (bytes_in k (n / 256)) (omega arith) (in_bytes k (n / 256)) i

pow_eight : (i : ℕ) → 2 ^ (8 * suc i) ≡ 256 * 2 ^ (8 * i)
pow_eight i = let e : 8 * suc i ≡ 8 + 8 * i = omega arith in ap (λ (x : ℕ). 2 ^ x) e ∙ pow-add 2 8 (8 * i)

pow_bytes : (i : ℕ) → 256 ^ i ≡ 2 ^ (8 * i)
pow_bytes zero = refl
pow_bytes (suc i) = let e = pow_bytes i in let d = pow_eight i in omega arith

low_byte : (i n : ℕ) → byte_at i n ≡ n / 2 ^ (8 * i) % 256
low_byte zero n = ap (λ (x : ℕ). x % 256) (sym (div-one n))
low_byte (suc i) n = ap (λ (x : ℕ). n / x % 256) (pow_bytes (suc i))

front : (b d : ℕ) (t s : List ℕ) → d ≡ b → take (length t) s ≡ t → take (length (up_to b t)) (d ∷ s) ≡ up_to b t
front zero d t s e h = refl
front (suc b) d t s e h = cc

-- a number's bytes, the lowest first, begin with those up to the first zero
pub low_front : (k i n m : ℕ) → m ≡ n / 2 ^ (8 * i) → take (length (bytes_in k m)) (bytes_low_first i k n) ≡ bytes_in k m
low_front zero i n m e = refl
low_front (suc k) i n m e =
    let x : 8 * i + 8 ≡ 8 * suc i = omega arith in
    let d : m / 256 ≡ n / 2 ^ (8 * suc i) = ap (λ (y : ℕ). y / 256) e ∙ shr-shr n (8 * i) 8 ∙ ap (λ (y : ℕ). n / 2 ^ y) x in
    front (m % 256) (byte_at i n) (bytes_in k (m / 256)) (bytes_low_first (suc i) k n)
    (low_byte i n ∙ ap (λ (y : ℕ). y % 256) (sym e)) (low_front k (suc i) n (m / 256) d)

-- ---- a number's bounds by its bytes
pub value_below : (bs : List ℕ) → Bytes bs → value bs < 2 ^ (8 * length bs)
value_below [] f = omega arith
value_below (b ∷ bs) f =
    let e = value_below bs (λ i. f (suc i)) in
    let d = pow_eight (length bs) in
    let h : b < 256 = f 0 in
    omega arith

pub value_above : (b : ℕ) (bs : List ℕ) → Solid (b ∷ bs) → 2 ^ (8 * length bs) ≤ value (b ∷ bs)
value_above b [] s = omega arith
value_above b (d ∷ bs) s =
    let e = value_above d bs s.1 in
    let p = pow_eight (length bs) in
    omega arith

-- h above k bytes
abbrev up : ℕ → ℕ → ℕ
up zero h = h
up (suc k) h = 256 * up k h

up_to_some : (b : ℕ) (t : List ℕ) → 0 < b → up_to b t ≡ b ∷ t
up_to_some zero t h = absurd (not-suc-le-zero h)
up_to_some (suc b) t h = refl

pub bytes_again : (k : ℕ) (bs : List ℕ) (h : ℕ) → length bs ≤ k → Solid bs → Bytes bs → bytes_in k (value bs + up k h) ≡ bs
bytes_again zero [] h l s f = refl
bytes_again zero (b ∷ bs) h l s f = absurd (not-suc-le-zero l)
bytes_again (suc k) [] h l s f =
    let e : (0 + 256 * up k h) % 256 ≡ 0 = omega arith in
    ap (λ (x : ℕ). up_to x (bytes_in k ((0 + 256 * up k h) / 256))) e
bytes_again (suc k) (b ∷ bs) h l s f =
    let y : b < 256 = f 0 in
    let e : ((b + 256 * value bs) + 256 * up k h) % 256 ≡ b = omega arith in
    let d : ((b + 256 * value bs) + 256 * up k h) / 256 ≡ value bs + up k h = omega arith in
    ap (λ (x : ℕ). up_to x (bytes_in k (((b + 256 * value bs) + 256 * up k h) / 256))) e
    ∙ ap (λ (x : ℕ). up_to b (bytes_in k x)) d
    ∙ up_to_some b _ s.0
    ∙ ap (λ (x : List ℕ). b ∷ x) (bytes_again k bs h (le_of_suc-le-suc l) s.1 (λ i. f (suc i)))

pub small : (bs : List ℕ) (k : ℕ) → length bs ≤ k → Bytes bs → value bs < 2 ^ (8 * k)
small bs k l f =
    let e = value_below bs f in
    let m : 8 * length bs ≤ 8 * k = omega arith in
    let p = pow_mono m in
    omega arith

-- ---- the length by the zeros above the last byte
pub length_by_zeros : (a : ℕ) (t : List ℕ) → a ≡ value t → 0 < length t → length t ≤ 7 → Solid t → Bytes t → 8 - count_leading_zeros 64 a / 8 ≡ length t
length_by_zeros a [] e h l s f = absurd (not-suc-le-zero h)
length_by_zeros a (b ∷ bs) e h l s f =
    let lo = value_above b bs s in
    let hi = value_below (b ∷ bs) f in
    let q = pow_pos (8 * length bs) in
    let m : value (b ∷ bs) < 2 ^ (8 * 7) = small (b ∷ bs) 7 l f in
    let t = leading_top 64 a (omega arith) (omega arith) in
    let under : t.0 < 8 * length (b ∷ bs) =
    ⊎_elim (λ (x : t.0 < 8 * length (b ∷ bs)). x) (λ (x : 8 * length (b ∷ bs) ≤ t.0). absurd (omega (arith, pow_mono x, t.2)))
    (cases_lt t.0 (8 * length (b ∷ bs))) in
    let over : 8 * length bs < suc t.0 =
    ⊎_elim (λ (x : 8 * length bs < suc t.0). x) (λ (x : suc t.0 ≤ 8 * length bs). absurd (omega (arith, pow_mono x, t.3)))
    (cases_lt (8 * length bs) (suc t.0)) in
    omega (arith, t.1)

-- ---- the word
pub laid : (bs : List ℕ) (d : ℕ) → 0 < length bs → length bs ≤ 7 → Solid bs → Bytes bs → d < 2
    → (w : ℕ) → w ≡ value bs + d * 2 ^ 62 + 2 ^ 63 → (text_of w ≡ bs) × (width_of w ≡ d + 1) × (word_of (text_of w) (width_of w) ≡ w)
unfolding text_of
laid bs d h l s f x w e =
    let m : value bs < 2 ^ (8 * 7) = small bs 7 l f in
    let p : w ≡ value bs + up 7 (64 * d + 128) = omega arith in
    let t : bytes_in 7 w ≡ bs = ap (bytes_in 7) p ∙ bytes_again 7 bs (64 * d + 128) l s f in
    let y : width_of w ≡ d + 1 = omega arith in
    let v : value (bytes_in 7 w) ≡ value bs = ap value t in
    (t, y, omega arith)

pub masked : (w : ℕ) → word_of (text_of w) (width_of w) ≡ w → bit_and w 0x00ff_ffff_ffff_ffff ≡ value (text_of w)
unfolding text_of
masked w e =
    let m : value (text_of w) < 2 ^ (8 * 7) = small (text_of w) 7 (in_length 7 w) (in_bytes 7 w) in
    and_mask w 56 ∙ omega arith

pub length_of : (w : ℕ) → word_of (text_of w) (width_of w) ≡ w → 0 < length (text_of w)
    → 8 - count_leading_zeros 64 (bit_and w 0x00ff_ffff_ffff_ffff) / 8 ≡ length (text_of w)
unfolding text_of
length_of w e k = length_by_zeros (bit_and w 0x00ff_ffff_ffff_ffff) (text_of w) (masked w e) k (in_length 7 w) (in_solid 7 w) (in_bytes 7 w)

pub text_length : (w : ℕ) → length (text_of w) ≤ 7
unfolding text_of
text_length w = in_length 7 w

pub text_front : (w : ℕ) → take (length (text_of w)) (bytes_low_first 0 7 w) ≡ text_of w
unfolding text_of
text_front w = low_front 7 0 w w (sym (div-one w))

pub topped : (v : ℕ) → v < 2 ^ 56 → bit_or 0x8000_0000_0000_0000 v ≡ v + 0 * 2 ^ 62 + 2 ^ 63
topped v h = let e = or_shifted 1 63 v (omega arith) in omega arith

pub widened : (v : ℕ) → v < 2 ^ 56 → bit_or (bit_or 0x8000_0000_0000_0000 v) 0x4000_0000_0000_0000 ≡ v + 1 * 2 ^ 62 + 2 ^ 63
widened v h =
    let e : bit_or 0x8000_0000_0000_0000 v ≡ 2 * 2 ^ 62 + v = let d = topped v h in omega arith in
    let b = or_block 62 2 1 v 0 (omega arith) (omega arith) in
    let z = or_zero_r v in
    ap (λ (x : ℕ). bit_or x 0x4000_0000_0000_0000) e ∙ b ∙ omega arith

pub wide_bit : (w : ℕ) → bit_and w 0x4000_0000_0000_0000 ≡ (w / 2 ^ 62 % 2) * 2 ^ 62
wide_bit w = and_high w 1 62

-- ---- a text read from its end
-- one byte b more: what is left of the text t before it was read is r, and after it q
pub read_more : (t r q : List ℕ) (b w : ℕ) → length t ≤ 7 → Bytes t → r ≡ q ++ (b ∷ []) → r ≡ take (length r) t → w ≡ value (drop (length r) t)
    → (q ≡ take (length q) t) × (bit_or (w * 256 % 2 ^ 64) b ≡ value (drop (length q) t))
read_more t r q b w l f e h v =
    let s : List ℕ = drop (length r) t in
    let all : t ≡ q ++ (b ∷ s) =
    sym (take-append-drop (length r) t) ∙ ap (λ u. u ++ s) (sym h ∙ e) ∙ append_assoc q (b ∷ []) s in
    let n : length t ≡ length q + suc (length s) = ap length all ∙ length-append q (b ∷ s) in
    let low : b < 256 = subst (λ (x : ℕ). x < 256) (ap (λ u. get_or u (length q) 0) all ∙ get_or_at q b s 0 (length q) refl) (f (length q)) in
    let g : Bytes s = λ j. subst (λ (x : ℕ). x < 256) (sym (get_or-drop (length r) t j 0)) (f (length r + j)) in
    let m : value s < 2 ^ (8 * 6) = small s 6 (omega arith) g in
    let z : (w * 256) % 2 ^ 64 ≡ value s * 2 ^ 8 = omega arith in
    let o = or_shifted (value s) 8 b low in
    let d : drop (length q) t ≡ b ∷ s = ap (drop (length q)) all ∙ drop_at q (b ∷ s) (length q) refl in (
      sym (ap (take (length q)) all ∙ take_at q (b ∷ s) (length q) refl),
      ap (λ (x : ℕ). bit_or x b) z ∙ o ∙ omega arith ∙ sym (ap value d),
    )

-- ---- the bits
pub digit : (k i : ℕ) (bs : List ℕ) (h : ℕ) → i < k → Bytes bs → (value bs + up k h) / 2 ^ (8 * i) % 256 ≡ get_or bs i 0
digit zero i bs h l f = absurd (not-suc-le-zero l)
digit (suc k) zero [] h l f = let e = div-one (0 + 256 * up k h) in omega arith
digit (suc k) zero (b ∷ bs) h l f =
    let y : b < 256 = f 0 in
    let e = div-one ((b + 256 * value bs) + 256 * up k h) in
    omega arith
digit (suc k) (suc i) [] h l f =
    let x : 8 + 8 * i ≡ 8 * suc i = omega arith in
    let d : (0 + 256 * up k h) / 256 ≡ value [] + up k h = omega arith in
    ap (λ (j : ℕ). (0 + 256 * up k h) / 2 ^ j % 256) (sym x)
    ∙ ap (λ (j : ℕ). j % 256) (sym (shr-shr (0 + 256 * up k h) 8 (8 * i)))
    ∙ ap (λ (j : ℕ). j / 2 ^ (8 * i) % 256) d
    ∙ digit k i [] h (le_of_suc-le-suc l) f
digit (suc k) (suc i) (b ∷ bs) h l f =
    let y : b < 256 = f 0 in
    let x : 8 + 8 * i ≡ 8 * suc i = omega arith in
    let d : ((b + 256 * value bs) + 256 * up k h) / 256 ≡ value bs + up k h = omega arith in
    ap (λ (j : ℕ). ((b + 256 * value bs) + 256 * up k h) / 2 ^ j % 256) (sym x)
    ∙ ap (λ (j : ℕ). j % 256) (sym (shr-shr ((b + 256 * value bs) + 256 * up k h) 8 (8 * i)))
    ∙ ap (λ (j : ℕ). j / 2 ^ (8 * i) % 256) d
    ∙ digit k i bs h (le_of_suc-le-suc l) (λ j. f (suc j))

pub bits : (w : ℕ) → word_of (text_of w) (width_of w) ≡ w → Bits w (spelled w)
unfolding text_of
bits w e =
    let m : value (text_of w) < 2 ^ (8 * 7) = small (text_of w) 7 (in_length 7 w) (in_bytes 7 w) in
    let d : ℕ = w / 2 ^ 62 % 2 in
    let p : value (text_of w) + up 7 (64 * d + 128) ≡ w = omega arith in
    record {
      byte = λ i h. ap (λ (x : ℕ). x / 2 ^ (8 * i) % 256) (sym p) ∙ digit 7 i (text_of w) (64 * d + 128) h (in_bytes 7 w);
      between = omega arith;
      wide = omega arith;
      top = omega arith;
    }

-- ---- texts by their numbers
pub same_value : (s t : List ℕ) → Solid s → Solid t → Bytes s → Bytes t → eqb (value s) (value t) ≡ same_bytes s t
same_value [] [] p q f g = refl
same_value [] (d ∷ t) p q f g = ne_eqb 0 (d + 256 * value t) (λ e. absurd (omega (arith, q.0)))
same_value (b ∷ s) [] p q f g = ne_eqb (b + 256 * value s) 0 (λ e. absurd (omega (arith, p.0)))
same_value (b ∷ s) (d ∷ t) p q f g =
    let e = same_value s t p.1 q.1 (λ i. f (suc i)) (λ i. g (suc i)) in
    let x : b < 256 = f 0 in
    let y : d < 256 = g 0 in
    grind (arith, nat_tests)

pub same_texts : (w v : ℕ) → word_of (text_of w) (width_of w) ≡ w → word_of (text_of v) (width_of v) ≡ v
    → eqb (bit_and w 0x00ff_ffff_ffff_ffff) (bit_and v 0x00ff_ffff_ffff_ffff) ≡ same_bytes (text_of w) (text_of v)
unfolding text_of
same_texts w v k l =
    ap (λ (x : ℕ). eqb x (bit_and v 0x00ff_ffff_ffff_ffff)) (masked w k) ∙ ap (eqb (value (text_of w))) (masked v l)
    ∙ same_value (text_of w) (text_of v) (in_solid 7 w) (in_solid 7 v) (in_bytes 7 w) (in_bytes 7 v)
