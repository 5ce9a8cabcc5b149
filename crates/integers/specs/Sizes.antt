-- How large whole numbers are. Definitions only.
use Rattle.std.specs.Prelude.{ℕ, ◌≤◌, List, ℤ, pos, nat_abs, get_or}

-- a whole number of at most this size; a record, so that the number is found from the fact
pub record Within (n : ℕ) (z : ℤ) : Type 0 where
  pub within : nat_abs z ≤ n

-- and each number of a list
pub record EachWithin (n : ℕ) (zs : List ℤ) : Type 0 where
  pub at : (i : ℕ) → Within n (get_or zs i (pos 0))
