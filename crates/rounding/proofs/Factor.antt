-- The factors of a shape value: one plus a coordinate, which costs one rounding, and an eighth of it, which costs no more. Assumes nothing.
use Prim.Native.Nat.{ℕ, suc, ◌+◌, ◌-◌, ◌*◌, ◌^◌, ◌≤◌, ◌<◌}
use native.Mathlib.Nat.{le_trans, le_of_eq, le_of_lt, le_refl, le_of_suc-le-suc, not-le_of_lt, mul-le-mul, mul-le-mul_right, mul_assoc}
use native.Mathlib.Omega.{arith}
use mathlib.Core.Path.{◌≡◌, refl, sym, ap, ◌∙◌, subst}
use mathlib.Core.Bool.{Bool, true, false, not, cond}
use lib.IntN.{pos, negsuc}
use lib.Dec.{T, ltb, leb, ltb→lt, leb→le, nleb→lt, lit≤}
use lib.Pow.{pow-add, pow_pos, pow_mono}
use lib.Ieee.{Float, fin, Format, binary32, binary64, prec, emax, low, unlike, round, sum, add, mul, fits}
use lib.Ieee.Digits.{back}
use lib.Ieee.Exact.{HasValue, round_exact}
use lib.Ieee.Fits.{mul-fits, reach, two, two-le_pos}
use lib.Ieee.Scale.{overflow, round_same}
use Rattle.binary64.specs.Exact.{size_in, is_negative}
use Rattle.rounding.proofs.Within.{within_same, within_as, within_scaled, within_unscaled}
use Rattle.rounding.proofs.Nearest.{two_halves}
use Rattle.rounding.proofs.Units.{Held, Is, is_of_value, own_value, Digits, digits, size_below, unlike_plus}
use Rattle.rounding.proofs.Round.{Rounded, rounded_of, round_near, round_units}
use Rattle.rounding.proofs.Add.{add_units}
use Rattle.rounding.proofs.Mul.{mul_units, square_pos}
use Rattle.rounding.proofs.Estimate.{Scale, over, fine, Estimate, Sized, Times}

-- ---- one plus a coordinate
abbrev one : Float
one = fin false 1 (pos 0)

-- 1 + r in units, for an r of this sign and size
abbrev pub one_plus : Format → Bool → ℕ → ℕ
one_plus f s R = cond s (2 ^ low f - R) (2 ^ low f + R)

sum_one : (f : Format) (s : Bool) (L R c : ℕ) → R ≤ L → sum f false L s R c ≡ round f false (cond s (L - R) (L + R)) c
unfolding sum
sum_one f false L R c small = refl
sum_one f true L R c small = go (ltb L R) (ltb→lt L R)
  where
    go : (b : Bool) → (T b → L < R) → cond b (round f true (R - L) c) (round f false (L - R) c) ≡ round f false (L - R) c
    go true less = absurd (not-le_of_lt (less tt) small)
    go false less = refl

four_in_range : (f : Format) → 2 * 2 ^ low f * 2 ≤ overflow f
four_in_range binary32 = lit≤ tt
four_in_range binary64 = lit≤ tt

module _ (f : Format) (r : Float) (held : Held f r) (small : size_in f r ≤ 2 ^ low f) where
  abbrev exact : ℕ
  exact = one_plus f (is_negative r) (size_in f r)

  exact_most : exact ≤ 2 * 2 ^ low f
  exact_most = go (is_negative r)
    where
      go : (s : Bool) → one_plus f s (size_in f r) ≤ 2 * 2 ^ low f
      go true = omega arith
      go false = omega arith

  pub one_plus_lem : Rounded f (add f one r) false exact 1 exact
  one_plus_lem =
      let l = 2 ^ low f in
      let value : HasValue one false l l = (refl, omega arith) in
      let sum_is_lem = add_units f one r false (is_negative r) l (size_in f r) value (own_value f r held) ∙ sum_one f (is_negative r) l (size_in f r) l small in
      subst (λ (z : Float). Rounded f z false exact 1 exact) (sym sum_is_lem)
      (round_units f false exact (le_trans (mul-le-mul_right 2 exact_most) (four_in_range f)))

-- a rounded number of units is near it by one rounding, and so by a larger bound
abbrev pub rounded_once : ℕ → ℕ → Estimate
rounded_once n extra = record { exact = n; bound = n + extra; roundings = 1 }

pub rounded_sized : (s : Scale) {x : Float} {sign : Bool} {n : ℕ} (extra : ℕ) → T (fits s.format x) → Rounded s.format x sign n 1 n
    → Sized (over s 1) x (rounded_once n extra)
rounded_sized s extra in_format r =
    record {
      held = record { in_format = in_format; is_finite = r.is_finite };
      close = omega (arith, mul-le-mul_right (fine s) r.close.over, mul-le-mul_right (fine s) r.close.under);
      bounded = omega arith;
    }

-- ---- an eighth
abbrev pub eighth : Float
eighth = fin false 1 (negsuc 2)

eighth_held : (f : Format) → Held f eighth
unfolding fits
eighth_held binary32 = record { in_format = tt; is_finite = tt }
eighth_held binary64 = record { in_format = tt; is_finite = tt }

eighth_units : (f : Format) → size_in f eighth * 8 ≡ 2 ^ low f
unfolding size_in
eighth_units binary32 = refl
eighth_units binary64 = refl

module _ (f : Format) (x : Float) (held : Held f x) where
  abbrev X : ℕ
  X = size_in f x

  abbrev E : ℕ
  E = size_in f eighth

  abbrev l : ℕ
  l = 2 ^ low f

  abbrev h : ℕ
  h = 2 ^ (prec f - 1)

  abbrev z : Float
  z = mul f eighth x

  abbrev s : Bool
  s = unlike (is_negative eighth) (is_negative x)

  as_round : z ≡ round f s (E * X) (l * l)
  as_round = mul_units f eighth x (is_negative eighth) (is_negative x) E X (own_value f eighth (eighth_held f)) (own_value f x held)

  -- where the last three places are free nothing is lost
  whole_eighth : (m j : ℕ) → m < 2 ^ prec f → X ≡ m * 2 ^ j * 8 → Is f z s (m * 2 ^ j)
  whole_eighth m j short value =
      let n = m * 2 ^ j in
      let same : E * X * l ≡ n * (l * l) = omega (arith, ap (λ (y : ℕ). y * (n * l)) (eighth_units f), ap (λ (y : ℕ). E * y * l) value) in
      let n_round = as_round ∙ round_same f s (E * X) (l * l) n l (square_pos f) (pow_pos (low f)) same in
      is_of_value f z s n
      (subst (λ (y : Float). HasValue y s n l) (sym n_round) (round_exact f s n l m j (pow_pos (low f)) short (omega (arith, size_below f x held)) refl))

  free : (d : Digits f x) → 3 ≤ d.exponent → Rounded f z s X 8 (4 * 2 ^ prec f)
  free d three =
      let m = d.significand in
      let j = d.exponent - 3 in
      let power : 2 ^ d.exponent ≡ 2 ^ j * 8 = ap (λ (y : ℕ). 2 ^ y) (sym (back d.exponent 3 three)) ∙ pow-add 2 j 3 in
      let value : X ≡ m * 2 ^ j * 8 = d.value ∙ ap (λ (y : ℕ). m * y) power ∙ sym (mul_assoc m (2 ^ j) 8) in
      rounded_of f z s (m * 2 ^ j) X 8 (4 * 2 ^ prec f) (whole_eighth m j d.short value)
      (within_as (ap (λ (y : ℕ). y * 2 ^ prec f) value) refl refl (within_same (X * 2 ^ prec f) (4 * 2 ^ prec f)))

  halves : 2 * h ≡ 2 ^ prec f
  halves = two_halves (prec f) (two-le_pos (prec f) (two f))

  top : prec f ≤ low f + suc (emax f)
  top = omega (arith, reach f)

  -- where they are not, the value is so small that a rounding is at most half a unit
  small_eighth : X ≤ h * 8 → Rounded f z s X 8 (4 * 2 ^ prec f)
  small_eighth few =
      let B = 2 ^ prec f in
      let eight : E * 8 ≡ l = eighth_units f in
      let most : E * X * l ≤ h * (l * l) = omega (arith, ap (λ (y : ℕ). y * (X * l)) eight, mul-le-mul_right (l * l) few) in
      let double : h * (l * l) * 2 ≡ B * (l * l) = omega (arith, ap (λ (y : ℕ). y * (l * l)) halves) in
      let room = le_trans (le_of_eq double) (mul-le-mul_right (l * l) (pow_mono top)) in
      let r = round_near f s (E * X) (l * l) (h * (l * l)) (square_pos f) most (le_refl (h * (l * l))) room in
      let exact : E * X * l * B * 8 ≡ X * B * (l * l) = omega (arith, ap (λ (y : ℕ). y * (X * l * B)) eight) in
      subst (λ (y : Float). Rounded f y s X 8 (4 * B)) (sym as_round)
      (record {
        is_finite = r.is_finite;
        sign = r.sign;
        close = within_unscaled {m = l * l} (square_pos f) (within_as (omega arith) exact (omega (arith, double)) (within_scaled 8 r.close));
      })

  taken : (d : Digits f x) → d.exponent ≤ 2 → X ≤ h * 8
  taken d few = le_trans (le_of_eq d.value) (le_trans (mul-le-mul (le_of_lt d.short) (pow_mono few)) (le_of_eq (omega (arith, halves))))

  eighth_close : Rounded f z s X 8 (4 * 2 ^ prec f)
  eighth_close = go (digits f x held)
    where
      pick : (d : Digits f x) (b : Bool) → (T b → 3 ≤ d.exponent) → (T (not b) → d.exponent < 3) → Rounded f z s X 8 (4 * 2 ^ prec f)
      pick d true more fewer = free d (more tt)
      pick d false more fewer = small_eighth (taken d (le_of_suc-le-suc (fewer tt)))

      go : Digits f x → Rounded f z s X 8 (4 * 2 ^ prec f)
      go d = pick d (leb 3 d.exponent) (leb→le 3 d.exponent) (nleb→lt 3 d.exponent)

-- so an eighth of a rounded number of units is near an eighth of it by one rounding, by a bound that has room for four units
pub eighth_sized : (s : Scale) {x : Float} {sign : Bool} {n extra : ℕ} → Held s.format x → Rounded s.format x sign n 1 n → 4 * fine s ≤ extra
    → Times (over s 8) (mul s.format eighth x) sign (rounded_once n extra)
unfolding is_negative
eighth_sized s {x} held r room =
    let z = eighth_close s.format x held in
    let part = within_scaled (fine s) z.close in
    let whole = within_scaled (fine s) r.close in
    record {
      sized = record {
        held = record { in_format = mul-fits s.format eighth x; is_finite = z.is_finite };
        close = omega (arith, part, whole, mul-le-mul_right (fine s) room);
        bounded = omega arith;
      };
      sign_is = z.sign ∙ unlike_plus (is_negative x) ∙ r.sign;
    }
