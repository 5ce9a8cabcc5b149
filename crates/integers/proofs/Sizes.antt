-- The size of a sum, a difference and a product, and that what is small enough fits a signed width and is read back from its bits. Assumes nothing.
use Prim.Native.Nat.{ℕ, zero, suc, ◌+◌, ◌*◌, ◌^◌, ◌≤◌, ◌<◌}
use native.Mathlib.Nat.{le_refl, le_trans, mul-le-mul}
use native.Mathlib.Omega.{arith}
use mathlib.Core.Path.{◌≡◌, refl, subst⁻¹}
use mathlib.Core.Bool.{Bool, true, false}
use lib.Dec.{T, ltb, ltb→lt}
use lib.IntN.{ℤ, pos, negsuc, neg_ℤ, nat_abs, sub_ℕ, ◌+ℤ◌, ◌-ℤ◌, ◌*ℤ◌}
use lib.Signed.{mag}
use borrow.Author.Tests.{ltb-true}
use mir.Syntax.{w64}
use mir.Val.{SFits, to_z, of_z}
use mir.Facts.{to_z-of_z}
use Rattle.integers.specs.Sizes.{Within}

pub size_neg : (z : ℤ) → nat_abs (neg_ℤ z) ≡ nat_abs z
size_neg (pos zero) = refl
size_neg (pos (suc n)) = refl
size_neg (negsuc n) = refl

size_sub : (a b : ℕ) → nat_abs (sub_ℕ a b) ≤ a + b
size_sub a b = by (ltb a b) refl
  where
    by : (t : Bool) → ltb a b ≡ t → nat_abs (sub_ℕ a b) ≤ a + b
    by true e = let less : a < b = ltb-true a b e in rw e (omega arith)
    by false e = rw e (omega arith)

pub size_add : (x y : ℤ) → nat_abs (x +ℤ y) ≤ nat_abs x + nat_abs y
size_add (pos a) (pos b) = omega arith
size_add (pos a) (negsuc b) = size_sub a (suc b)
size_add (negsuc a) (pos b) = omega (arith, size_sub b (suc a))
size_add (negsuc a) (negsuc b) = omega arith

pub size_mul : (x y : ℤ) → nat_abs (x *ℤ y) ≡ nat_abs x * nat_abs y
size_mul (pos a) (pos b) = refl
size_mul (pos a) (negsuc b) = size_neg (pos (a * suc b))
size_mul (negsuc a) (pos b) = size_neg (pos (suc a * b))
size_mul (negsuc a) (negsuc b) = refl

pub size_mag : (x : ℤ) → mag x ≤ nat_abs x
size_mag (pos a) = omega arith
size_mag (negsuc a) = omega arith

-- ---- the same of bounds
pub within_self : (n : ℕ) → Within n (pos n)
within_self n = record { within = le_refl n }

pub within_more : {m n : ℕ} {x : ℤ} → m ≤ n → Within m x → Within n x
within_more h p = record { within = le_trans p.within h }

pub within_neg : {n : ℕ} {x : ℤ} → Within n x → Within n (neg_ℤ x)
within_neg {n} {x} p = record { within = subst⁻¹ (λ (k : ℕ). k ≤ n) (size_neg x) p.within }

pub within_add : {m n : ℕ} {x y : ℤ} → Within m x → Within n y → Within (m + n) (x +ℤ y)
within_add {m} {n} {x} {y} p q = record { within = omega (arith, size_add x y, p.within, q.within) }

pub within_sub : {m n : ℕ} {x y : ℤ} → Within m x → Within n y → Within (m + n) (x -ℤ y)
within_sub p q = within_add p (within_neg q)

pub within_mul : {m n : ℕ} {x y : ℤ} → Within m x → Within n y → Within (m * n) (x *ℤ y)
within_mul {m} {n} {x} {y} p q = record { within = subst⁻¹ (λ (k : ℕ). k ≤ m * n) (size_mul x y) (mul-le-mul p.within q.within) }

-- ---- 64 bits with a sign
-- what the machine reads back from a number's bits
abbrev pub back : ℤ → ℤ
back z = to_z w64 (of_z w64 z)

pub within_fits : {n : ℕ} {z : ℤ} → T (ltb n (2 ^ 63)) → Within n z → SFits w64 z
within_fits {n} {z} t p =
    let room : n < 2 ^ 63 = ltb→lt n (2 ^ 63) t in
    record { sfits = omega (arith, size_mag z, p.within) }

pub within_back : {n : ℕ} {z : ℤ} → T (ltb n (2 ^ 63)) → Within n z → back z ≡ z
within_back t p = to_z-of_z (within_fits t p)
