-- Rows of w slots, one row behind another, in one flat list. Assumes nothing.
use Prim.Native.Nat.{ℕ, suc, ◌+◌, ◌*◌, ◌/◌, ◌%◌, ◌≤◌, ◌<◌}
use native.Mathlib.Nat.{mul-le-mul_left, mul-suc, mul_comm, mul-add-div, mul-add-mod_self_left, mod-eq_of_lt, div-eq_of_lt, div-lt_iff_lt-mul, add-zero}
use native.Mathlib.Numerals.{add-one}
use native.Mathlib.Omega.{arith}
use mathlib.Core.Path.{◌≡◌, ◌∙◌}

pub row_next : (w c : ℕ) → w * (c + 1) ≡ w * c + w
row_next w c = rw (add-one, mul-suc)

pub row_within : (w c m : ℕ) → c < m → w * c + w ≤ w * m
row_within w c m below = let whole : w * suc c ≤ w * m = mul-le-mul_left w below in rw mul-suc at whole

-- the row and the place of a slot
module _ (w c i : ℕ) (within : i < w) where
  pub slot_row : (w * c + i) / w ≡ c
  slot_row = mul-add-div (omega arith) c i ∙ rw (div-eq_of_lt within, add-zero)

  pub slot_place : (w * c + i) % w ≡ i
  slot_place = mul-add-mod_self_left w c i ∙ mod-eq_of_lt within

pub row_of : (w c j : ℕ) → 0 < w → j < w * c → j / w < c
row_of w c j some below = (div-lt_iff_lt-mul some).1 (rw mul_comm at below)
