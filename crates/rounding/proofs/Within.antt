-- Natural numbers that are at most t apart, and how sums and products of such numbers lie. Assumes nothing.
use Prim.Native.Nat.{ℕ, ◌+◌, ◌*◌, ◌≤◌, ◌<◌}
use native.Mathlib.Nat.{mul-le-mul_right, le_of_mul-le-mul_right}
use native.Mathlib.Omega.{arith}
use mathlib.Core.Path.{◌≡◌}

pub record Within (a b t : ℕ) : Type 0 where
  pub over : a ≤ b + t
  pub under : b ≤ a + t

pub within_same : (a t : ℕ) → Within a a t
within_same a t = omega arith

pub within_wider : {a b t u : ℕ} → t ≤ u → Within a b t → Within a b u
within_wider h w = omega arith

pub within_trans : {a b c t u : ℕ} → Within a b t → Within b c u → Within a c (t + u)
within_trans v w = omega arith

-- the same numbers, written otherwise
pub within_as : {a b t a' b' t' : ℕ} → a ≡ a' → b ≡ b' → t ≡ t' → Within a b t → Within a' b' t'
within_as p q r w = omega arith

pub within_scaled : {a b t : ℕ} (m : ℕ) → Within a b t → Within (a * m) (b * m) (t * m)
within_scaled m w = omega (arith, mul-le-mul_right m w.over, mul-le-mul_right m w.under)

pub within_unscaled : {a b t m : ℕ} → 0 < m → Within (a * m) (b * m) (t * m) → Within a b t
within_unscaled {a} {b} {t} {m} pos w =
    record { over = le_of_mul-le-mul_right {k = m} (omega arith) pos; under = le_of_mul-le-mul_right {k = m} (omega arith) pos }
