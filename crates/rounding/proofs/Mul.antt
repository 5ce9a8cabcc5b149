-- The product of two finite values is the exact one, in square units, rounded: so it is off by at most one part in 2 ^ prec of any bound on it
-- that is in the normal range. Assumes nothing.
use Prim.Native.Nat.{ℕ, ◌-◌, ◌*◌, ◌^◌, ◌≤◌, ◌<◌, max}
use native.Mathlib.Nat.{le_of_lt, le_of_mul-le-mul_right, mul-le-mul_right, mul-pos, mul-mul-mul_comm, le-max_left, le-max_right, max-eq_left, max-eq_right}
use native.Mathlib.Omega.{arith}
use mathlib.Core.Path.{◌≡◌, refl, sym, ap, ap₂, ◌∙◌, subst}
use mathlib.Core.Logic.{◌⊎◌, inl, inr}
use mathlib.Core.Bool.{Bool, true, false, not}
use lib.Dec.{T, leb, leb→le, nleb→lt}
use lib.Pow.{pow_pos}
use lib.Ieee.{Float, nan, inf, fin, Format, prec, low, unlike, up, down, round, mul}
use lib.Ieee.Exact.{HasValue}
use lib.Ieee.Fits.{down_pos}
use lib.Ieee.Scale.{round_same, overflow}
use Rattle.binary64.specs.Exact.{size_in, is_negative}
use Rattle.rounding.proofs.Within.{Within, within_as, within_wider, within_scaled, within_unscaled}
use Rattle.rounding.proofs.Units.{Held, own_value}
use Rattle.rounding.proofs.Round.{Rounded, round_near, round_units}

pub square_pos : (f : Format) → 0 < 2 ^ low f * 2 ^ low f
square_pos f = mul-pos (pow_pos (low f)) (pow_pos (low f))

pub mul_units : (f : Format) (x y : Float) (s t : Bool) (X Y : ℕ) → HasValue x s X (2 ^ low f) → HasValue y t Y (2 ^ low f)
    → mul f x y ≡ round f (unlike s t) (X * Y) (2 ^ low f * 2 ^ low f)
unfolding mul
mul_units f nan y s t X Y p q = absurd p
mul_units f (inf u) y s t X Y p q = absurd p
mul_units f (fin u m e) nan s t X Y p q = absurd q
mul_units f (fin u m e) (inf v) s t X Y p q = absurd q
mul_units f (fin u m e) (fin v n d) s t X Y p q =
    let l = 2 ^ low f in
    let same = mul-mul-mul_comm (m * up e) (n * up d) l l ∙ ap₂ (λ (a b : ℕ). a * b) p.1 q.1 ∙ mul-mul-mul_comm X (down e) Y (down d) in
    ap₂ (λ (s t : Bool). round f (unlike s t) (m * up e * (n * up d)) (down e * down d)) p.0 q.0
    ∙ round_same f (unlike s t) (m * up e * (n * up d)) (down e * down d) (X * Y) (l * l) (mul-pos (down_pos e) (down_pos d)) (square_pos f) same

-- ---- n square units, rounded: near them by a bound w / D, where n is zero or the bound is in the normal range
module _ (f : Format) (s : Bool) (n D w : ℕ) where
  abbrev l : ℕ
  l = 2 ^ low f

  abbrev least : ℕ
  least = 2 ^ (prec f - 1) * l

  abbrev square : Float
  square = round f s n (l * l)

  square_zero : n ≡ 0 → Rounded f square s (n * D) (l * D) w
  square_zero none =
      let same : 0 * (l * l) ≡ n * l = omega (arith, ap (λ (x : ℕ). x * l) none) in
      let as_zero = round_same f s 0 l n (l * l) (pow_pos (low f)) (square_pos f) same in
      let z = subst (λ (z : Float). Rounded f z s 0 1 0) as_zero (round_units f s 0 (omega arith)) in
      record {
        is_finite = z.is_finite;
        sign = z.sign;
        close = omega (arith, mul-le-mul_right (l * D) z.close.over, ap (λ (x : ℕ). x * (D * 2 ^ prec f)) none);
      }

  max_scaled : (a b : ℕ) → a * D ≤ w → b * D ≤ w → max a b * D ≤ w
  max_scaled a b h k = go (leb a b) (leb→le a b) (nleb→lt a b)
    where
      go : (c : Bool) → (T c → a ≤ b) → (T (not c) → b < a) → max a b * D ≤ w
      go true le gt = subst (λ (m : ℕ). m * D ≤ w) (sym (max-eq_right (le tt))) k
      go false le gt = subst (λ (m : ℕ). m * D ≤ w) (sym (max-eq_left (le_of_lt (gt tt)))) h

  square_normal : 0 < D → n * D ≤ w → least * D ≤ w → w * 2 ≤ overflow f * l * D → Rounded f square s (n * D) (l * D) w
  square_normal pos most normal room =
      let v = max n least in
      let v_most : v * D ≤ w = max_scaled n least most normal in
      let v_room : v * 2 ≤ overflow f * l = le_of_mul-le-mul_right {k = D} (omega arith) pos in
      let z = round_near f s n (l * l) (v * l) (square_pos f) (mul-le-mul_right l (le-max_left n least))
      (omega (arith, mul-le-mul_right l (le-max_right n least))) (omega (arith, mul-le-mul_right l v_room)) in
      let close : Within (size_in f square * l * 2 ^ prec f) (n * 2 ^ prec f) v =
      within_unscaled {m = l} (pow_pos (low f)) (within_as (omega arith) (omega arith) refl z.close) in
      record {
        is_finite = z.is_finite;
        sign = z.sign;
        close = within_as (omega arith) (omega arith) refl (within_wider v_most (within_scaled D close));
      }

module _ (f : Format) (x y : Float) (D w : ℕ) (X : Held f x) (Y : Held f y) (pos : 0 < D) (room : w * 2 ≤ overflow f * 2 ^ low f * D) where
  abbrev n : ℕ
  n = size_in f x * size_in f y

  abbrev sign : Bool
  sign = unlike (is_negative x) (is_negative y)

  pub mul_near : n * D ≤ w → (n ≡ 0) ⊎ (2 ^ (prec f - 1) * 2 ^ low f * D ≤ w) → Rounded f (mul f x y) sign (n * D) (2 ^ low f * D) w
  mul_near most normal =
      subst (λ (z : Float). Rounded f z sign (n * D) (2 ^ low f * D) w)
      (sym (mul_units f x y (is_negative x) (is_negative y) (size_in f x) (size_in f y) (own_value f x X) (own_value f y Y)))
      (elim normal [ inl none ↦ square_zero f sign n D w none | inr h ↦ square_normal f sign n D w pos most h room ])
