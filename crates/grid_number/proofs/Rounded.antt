-- A float of size at most 1,024 equals itself rounded to a whole number exactly where it is a grid number, and then that is the number. Assumes nothing.
use Prim.Native.Nat.{ℕ, zero, suc, ◌+◌, ◌*◌, ◌/◌, ◌%◌, ◌^◌, ◌≤◌, ◌<◌}
use native.Mathlib.Nat.{div-add-mod', div-lt_iff_lt-mul, eq_of_mul-eq-mul_right, mul-div_cancel, mul-mod_left, mul-pos, zero-lt-suc}
use native.Mathlib.Omega.{arith}
use mathlib.Core.Path.{◌≡◌, refl, sym, ◌∙◌, ap, ap₂, subst⁻¹}
use mathlib.Core.Bool.{Bool, true, false, ◌||◌, beq, true≢false}
use lib.Dec.{T, eqb, eqb→eq, le→leb, lt→ltb}
use lib.IntN.{ℤ, pos, negsuc, nat_abs}
use lib.Pow.{pow_pos}
use lib.Ieee.{Float, nan, inf, fin, binary64, up, down, level, neg, add, sub, eq, of_int, to_signed, in_signed, in_float}
use lib.Ieee.Back.{round_whole, positive_back, negative_back}
use lib.Ieee.Exact.{HasValue}
use lib.Ieee.Fits.{down_pos, and_l, and_r}
use borrow.Author.Tests.{eqb-true, eqb-false, eq-eqb, ne_eqb}
use Rattle.numbers.proofs.Tests.{holds}
use Rattle.answer.specs.Answer.{answered, refused}
use Rattle.binary64.specs.Exact.{size, is_negative, one}
use Rattle.rounding.proofs.Units.{Held, Is, own_value, gain, loss}
use Rattle.grid_number.specs.Grid.{with_sign, grid_number}
use Rattle.grid_number.proofs.Units.{by_units, by_units_lem, left_over_some, whole_small}
use Rattle.grid_number.proofs.Wholes.{PutOn, put_on, Apart, TakenOff, take_off}

-- ---- two floats are equal where their numbers of units are
same_eqb : (a b m n l c : ℕ) → 0 < l → 0 < c → a * l ≡ m * c → b * l ≡ n * c → eqb a b ≡ eqb m n
same_eqb a b m n l c L C p q = by (eqb a b) refl
  where
    by : (t : Bool) → eqb a b ≡ t → t ≡ eqb m n
    by true e = sym (eq-eqb m n (eq_of_mul-eq-mul_right c C m n (sym p ∙ ap (λ (k : ℕ). k * l) (eqb-true a b e) ∙ q)))
    by false e = sym (ne_eqb m n (λ (h : m ≡ n). eqb-false a b e (eq_of_mul-eq-mul_right l L a b (p ∙ ap (λ (k : ℕ). k * c) h ∙ sym q))))

same_level : (s t : Bool) (a b m n l c : ℕ) → 0 < l → 0 < c → a * l ≡ m * c → b * l ≡ n * c → level s a t b ≡ level s m t n
same_level s t a b m n l c L C p q = rw (same_eqb a b m n l c L C p q, same_eqb a 0 m 0 l c L C p (omega arith)) refl

eq_units : (x y : Float) (s t : Bool) (m n l : ℕ) → 0 < l → HasValue x s m l → HasValue y t n l → eq x y ≡ level s m t n
unfolding eq
eq_units nan y s t m n l some p q = absurd p
eq_units (inf u) y s t m n l some p q = absurd p
eq_units (fin u i e) nan s t m n l some p q = absurd q
eq_units (fin u i e) (inf v) s t m n l some p q = absurd q
eq_units (fin u i e) (fin v j d) s t m n l some p q =
    let left : i * up e * down d * l ≡ m * (down e * down d) = omega (arith, ap (λ (k : ℕ). k * down d) p.1) in
    let right : j * up d * down e * l ≡ n * (down e * down d) = omega (arith, ap (λ (k : ℕ). k * down e) q.1) in
    ap₂ (λ (s t : Bool). level s (i * up e * down d) t (j * up d * down e)) p.0 q.0
    ∙ same_level s t (i * up e * down d) (j * up d * down e) m n l (down e * down d) some (mul-pos (down_pos e) (down_pos d)) left right

-- ---- an integer as a float
abbrev is_minus : ℤ → Bool
is_minus (pos n) = false
is_minus (negsuc n) = true

scaled_value : (x : Float) (s : Bool) (n l : ℕ) → HasValue x s n 1 → HasValue x s (n * l) l
scaled_value nan s n l v = v
scaled_value (inf t) s n l v = v
scaled_value (fin t m e) s n l v = (v.0, omega (arith, ap (λ (k : ℕ). k * l) v.1))

int_value : (z : ℤ) → nat_abs z ≤ 2 ^ 53 → HasValue (of_int binary64 z) (is_minus z) (nat_abs z) 1
unfolding of_int
int_value (pos n) few = round_whole binary64 false n few
int_value (negsuc n) few = round_whole binary64 true (suc n) few

int_back : (z : ℤ) → nat_abs z ≤ 2 ^ 53 → T (in_signed binary64 63 (of_int binary64 z)) × (to_signed 63 (of_int binary64 z) ≡ z)
unfolding in_float
int_back (pos n) few = positive_back binary64 63 n (le→leb n (2 ^ 53) few) (omega arith)
int_back (negsuc n) few = negative_back binary64 63 n (lt→ltb n (2 ^ 53) few) (omega arith)

-- where it equals n units with the sign s
equals_then : (z : ℤ) (s : Bool) (n l : ℕ) → 0 < l → level (is_minus z) (nat_abs z * l) s n ≡ true → (n ≡ nat_abs z * l) × (with_sign s (nat_abs z) ≡ z)
equals_then z s n l some e =
    let t = holds (level (is_minus z) (nat_abs z * l) s n) e in
    let like = beq (is_minus z) s || eqb (nat_abs z * l) 0 in
    (sym (eqb→eq (nat_abs z * l) n (and_l (eqb (nat_abs z * l) n) like t)), by z s (and_r (eqb (nat_abs z * l) n) like t))
  where
    none : (k : ℕ) → T (eqb (suc k * l) 0) → ⊥
    none k t = let h = mul-pos (zero-lt-suc k) some in omega (arith, h, eqb→eq (suc k * l) 0 t)

    by : (z : ℤ) (s : Bool) → T (beq (is_minus z) s || eqb (nat_abs z * l) 0) → with_sign s (nat_abs z) ≡ z
    by (pos n) false t = refl
    by (pos zero) true t = refl
    by (pos (suc k)) true t = absurd (none k t)
    by (negsuc k) false t = absurd (none k t)
    by (negsuc k) true t = refl

then_equals : (z : ℤ) (s : Bool) (g b q l : ℕ) → Apart g b z → g + loss s q ≡ b + gain s q → level (is_minus z) (nat_abs z * l) s (q * l) ≡ true
then_equals (pos p) false g b q l apart exact =
    let same : p ≡ q = omega arith in
    rw (same, eq-eqb (q * l) (q * l) refl) refl
then_equals (pos p) true g b q l apart exact =
    let none : p ≡ 0 = omega arith in
    let no : q ≡ 0 = omega arith in
    rw (none, no, eq-eqb (0 * l) (0 * l) refl, eq-eqb (0 * l) 0 (omega arith)) refl
then_equals (negsuc k) false g b q l apart exact = absurd (omega arith)
then_equals (negsuc k) true g b q l apart exact =
    let same : suc k ≡ q = omega arith in
    rw (same, eq-eqb (q * l) (q * l) refl) refl

-- ---- 1.5 times 2 ^ 52 put on a float, and taken off again
abbrev base : ℕ
base = 3 * 2 ^ 51

abbrev pub wholes : Float
wholes = fin false 3 (pos 51)

abbrev pub rounded : Float → Float
rounded x = sub binary64 (add binary64 x wholes) wholes

base_value : (s : Bool) (l : ℕ) → HasValue (fin s 3 (pos 51)) s (base * l) l
base_value s l = (refl, omega arith)

-- sizes in units, of which l make one
below_base : (n l : ℕ) → 0 < l → n ≤ 1024 * l → (2 ^ 52 * l + n ≤ base * l) × (n + base * l < 2 ^ 53 * l) × (n < base * l)
below_base n l some few = (omega arith, omega arith, omega arith)

few_ones : (n l : ℕ) → 0 < l → n ≤ 1024 * l → n / l ≤ 1024
few_ones n l some few =
    let less : n < 1025 * l = omega arith in
    let h : n / l < 1025 = (div-lt_iff_lt-mul {k = l} {x = n} {y = 1025} some).1 less in
    omega arith

small_number : (z : ℤ) (g : ℕ) → Apart g base z → 2 ^ 52 ≤ g → g ≤ 2 ^ 53 → nat_abs z ≤ 2 ^ 53
small_number (pos p) g apart least most = omega arith
small_number (negsuc k) g apart least most = omega arith

of_ones : (w : ℕ) (s : Bool) (n q : ℕ) → 0 < w → n ≡ q * w → n / w ≤ 1024 → by_units w s n ≡ answered (with_sign s q)
of_ones w s n q some e few =
    whole_small w s n (ap (λ (k : ℕ). k % w) e ∙ mul-mod_left q w) few
    ∙ ap (λ (k : ℕ). answered (with_sign s k)) (ap (λ (k : ℕ). k / w) e ∙ mul-div_cancel q some)

whole_ones : (n w : ℕ) → n % w ≡ 0 → n ≡ n / w * w
whole_ones n w none = omega (arith, div-add-mod' n w)

module _ (x : Float) (held : Held binary64 x) (few : size x ≤ 1024 * one) where
  abbrev n : ℕ
  n = size x

  abbrev s : Bool
  s = is_negative x

  on : PutOn binary64 s n base (add binary64 x wholes)
  on =
      let reach = below_base n one (pow_pos 1074) few in
      put_on binary64 n base reach.0 reach.1 x wholes s (own_value binary64 x held) (base_value false one) reach.2

  off : TakenOff binary64 on.whole base (rounded x)
  unfolding sub neg
  off = take_off binary64 (add binary64 x wholes) (fin true 3 (pos 51)) on.whole base on.value (base_value true one)

  abbrev number : ℤ
  number = off.number

  small : nat_abs number ≤ 2 ^ 53
  small = small_number number on.whole off.apart on.least on.most

  pub fits_cast : T (in_signed binary64 63 (rounded x))
  fits_cast = subst⁻¹ (λ (y : Float). T (in_signed binary64 63 y)) off.is (int_back number small).0

  cast_is : to_signed 63 (rounded x) ≡ number
  cast_is = ap (to_signed 63) off.is ∙ (int_back number small).1

  eq_is : eq (rounded x) x ≡ level (is_minus number) (nat_abs number * one) s n
  eq_is =
      ap (λ (y : Float). eq y x) off.is
      ∙ eq_units (of_int binary64 number) x (is_minus number) s (nat_abs number * one) n one (pow_pos 1074)
      (scaled_value (of_int binary64 number) (is_minus number) (nat_abs number) one (int_value number small)) (own_value binary64 x held)

  itself : Is binary64 x s n
  itself = record { is_finite = held.is_finite; sign = refl; units = refl }

  pub equal : eq (rounded x) x ≡ true → grid_number x ≡ answered (to_signed 63 (rounded x))
  equal e =
      let same = equals_then number s n one (pow_pos 1074) (sym eq_is ∙ e) in
      by_units_lem x s n itself
      ∙ of_ones one s n (nat_abs number) (pow_pos 1074) same.0 (few_ones n one (pow_pos 1074) few)
      ∙ ap answered (same.1 ∙ sym cast_is)

  pub unequal : eq (rounded x) x ≡ false → grid_number x ≡ refused 15
  unequal e = by_units_lem x s n itself ∙ left_over_some one s n (λ (none : n % one ≡ 0). true≢false (sym (then_equal none) ∙ sym eq_is ∙ e))
    where
      then_equal : n % one ≡ 0 → level (is_minus number) (nat_abs number * one) s n ≡ true
      then_equal none =
          let is = whole_ones n one none in
          subst⁻¹ (λ (k : ℕ). level (is_minus number) (nat_abs number * one) s k ≡ true) is
          (then_equals number s on.whole base (n / one) one off.apart (on.exact (n / one) is))
