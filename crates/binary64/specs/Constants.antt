-- What the constants are, and what `is_zero` takes for a zero. Claims only.
use Rattle.std.specs.Prelude.{ℕ, ◌*◌, ◌≡◌, Bool, false, eqb, ℤ, pos, neg_ℤ}
use Rattle.std.specs.Float.{nan, inf, fin}
use Rattle.binary64.specs.Binary64.{f0, f1, f2, m1, infinity, is_zero}
use Rattle.binary64.specs.Exact.{one, units}

-- The constants are the numbers that they are named after, exactly.
pub record ConstantsAreExact : Type 0 where
  pub plus_zero : f0 ≡ fin false 0 (pos 0)
  pub plus_one : units f1 ≡ pos one
  pub two : units f2 ≡ pos (2 * one)
  pub minus_one : units m1 ≡ neg_ℤ (pos one)
  pub plus_infinity : infinity ≡ inf false

-- "plus or minus zero, never for NaN or infinity"
pub record ZerosAlone : Type 0 where
  pub not_nan : is_zero nan ≡ false
  pub not_infinite : (negative : Bool) → is_zero (inf negative) ≡ false
  pub finite : (negative : Bool) (m : ℕ) (e : ℤ) → is_zero (fin negative m e) ≡ eqb m 0
