-- What `round` makes of a fraction: a finite value near it, where twice the fraction does not overflow. A whole number of units is moved by at most
-- one part in 2 ^ prec of itself, at any size. Assumes nothing.
use Prim.Native.Nat.{ℕ, suc, ◌+◌, ◌-◌, ◌*◌, ◌^◌, ◌≤◌, ◌<◌}
use native.Mathlib.Nat.{le_trans, lt_of_not-le, lt_of_mul-lt-mul_right, mul-le-mul_right, mul-le-mul_left, mul-pos, mul-one}
use native.Mathlib.Omega.{arith}
use mathlib.Core.Path.{◌≡◌, refl, sym, ap, subst}
use mathlib.Core.Bool.{Bool, true, false, not}
use lib.Dec.{T, ltb, ltb→lt, nltb→le}
use lib.Pow.{pow_pos, pow_mono}
use lib.Ieee.{Float, Format, prec, emax, low, round}
use lib.Ieee.Exact.{HasValue, units_val, round_exact}
use lib.Ieee.Fits.{two, two-le_pos, round_is}
use lib.Ieee.Order.{drop, kept}
use lib.Ieee.Scale.{finite, grid, overflow}
use Rattle.binary64.specs.Exact.{size_in, is_negative}
use Rattle.rounding.proofs.Within.{Within, within_same, within_as, within_unscaled}
use Rattle.rounding.proofs.Nearest.{kept_near}
use Rattle.rounding.proofs.Units.{Is, is_of_value}

-- x is n / den units with the sign s, off by at most w / den of the 2 ^ prec-th part of a unit
pub record Rounded (f : Format) (x : Float) (s : Bool) (n den w : ℕ) : Type 0 where
  pub is_finite : T (finite x)
  pub sign : is_negative x ≡ s
  pub close : Within (size_in f x * den * 2 ^ prec f) (n * 2 ^ prec f) w

pub rounded_of : (f : Format) (x : Float) (s : Bool) (g n den w : ℕ) → Is f x s g → Within (g * den * 2 ^ prec f) (n * 2 ^ prec f) w → Rounded f x s n den w
rounded_of f x s g n den w is near = record { is_finite = is.is_finite; sign = is.sign; close = rw is.units near }

overflow_pos : (f : Format) → 0 < overflow f
overflow_pos f = pow_pos (low f + suc (emax f))

-- A rounding adds less than the number itself. So where twice the number does not reach the top, the rounded one does not.
below_top : (g n b top w : ℕ) → 2 ≤ b → 0 < top → n ≤ w → w * 2 ≤ top → g * b ≤ n * b + w → g < top
below_top g n b top w B pos most room close =
    lt_of_not-le (λ (reached : top ≤ g). never (mul-le-mul_right b reached) (mul-le-mul_right b most) (mul-le-mul_right b room) (mul-le-mul_left top B))
  where
    never : top * b ≤ g * b → n * b ≤ w * b → w * 2 * b ≤ top * b → top * 2 ≤ top * b → ⊥
    never p q r t = omega arith

-- ---- num / den, by a bound w / den that is in the normal range
module _
    (f : Format) (s : Bool) (num den w : ℕ) (pos : 0 < den)
    (most : num * 2 ^ low f ≤ w) (least : 2 ^ (prec f - 1) * den ≤ w) (room : w * 2 ≤ overflow f * den)
  where
    abbrev n : ℕ
    n = num * 2 ^ low f

    abbrev g : ℕ
    g = grid f num den

    on_grid : Within (g * den * 2 ^ prec f) (n * 2 ^ prec f) w
    on_grid = kept_near (prec f) n den w (two-le_pos (prec f) (two f)) pos most least

    no_overflow : g < overflow f
    no_overflow =
        let two_digits : 2 ≤ 2 ^ prec f = pow_mono (two-le_pos (prec f) (two f)) in
        lt_of_mul-lt-mul_right den
        (below_top (g * den) n (2 ^ prec f) (overflow f * den) w two_digits (mul-pos (overflow_pos f) pos) most room on_grid.over)

    pub round_near : Rounded f (round f s num den) s n den w
    round_near =
        let kept_units = units_val f s (kept (prec f) n den) (drop (prec f) n den) no_overflow in
        let value = subst (λ (z : Float). HasValue z s g (2 ^ low f)) (sym (round_is f s num den)) kept_units in
        rounded_of f (round f s num den) s g n den w (is_of_value f (round f s num den) s g value) on_grid

-- ---- a whole number of units
module _ (f : Format) (s : Bool) (n : ℕ) (room : n * 2 ≤ overflow f) where
  abbrev l : ℕ
  l = 2 ^ low f

  exact : n < 2 ^ prec f → Rounded f (round f s n l) s n 1 n
  exact few =
      let small : n * 1 < overflow f = omega (arith, overflow_pos f) in
      let value = round_exact f s n l n 0 (pow_pos (low f)) few small (ap (λ (x : ℕ). x * l) (sym (mul-one n))) in
      rounded_of f (round f s n l) s n n 1 n (is_of_value f (round f s n l) s n value) (within_as (omega arith) refl refl (within_same (n * 2 ^ prec f) n))

  inexact : 2 ^ prec f ≤ n → Rounded f (round f s n l) s n 1 n
  inexact many =
      let least : 2 ^ (prec f - 1) * l ≤ n * l = mul-le-mul_right l (le_trans (pow_mono (omega arith)) many) in
      let r = round_near f s n l (n * l) (pow_pos (low f)) (omega arith) least (omega (arith, mul-le-mul_right l room)) in
      record {
        is_finite = r.is_finite;
        sign = r.sign;
        close = within_unscaled {m = l} (pow_pos (low f)) (within_as (omega arith) (omega arith) refl r.close);
      }

  pub round_units : Rounded f (round f s n l) s n 1 n
  round_units = go (ltb n (2 ^ prec f)) (ltb→lt n (2 ^ prec f)) (nltb→le n (2 ^ prec f))
    where
      go : (b : Bool) → (T b → n < 2 ^ prec f) → (T (not b) → 2 ^ prec f ≤ n) → Rounded f (round f s n l) s n 1 n
      go true few many = exact (few tt)
      go false few many = inexact (many tt)
