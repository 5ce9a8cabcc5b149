-- What the test `image <= T and -image <= T` of a sum of products tells of the exact sum, and when it passes. Assumes nothing.
use Prim.Native.Nat.{ℕ, ◌+◌, ◌*◌, ◌^◌, ◌≤◌, ◌<◌}
use native.Mathlib.Nat.{mul-pos}
use native.Mathlib.Omega.{arith}
use mathlib.Core.Path.{◌≡◌, ap}
use mathlib.Core.Logic.{◌⊎◌, inl, inr}
use mathlib.Core.Bool.{◌&&◌}
use lib.IntN.{ℤ, nat_abs}
use lib.Dec.{T}
use lib.Pow.{pow_pos}
use lib.Ieee.{Float, Format, prec, neg, le}
use Rattle.binary64.specs.Exact.{size_in}
use Rattle.rounding.proofs.Within.{Within, within_scaled, within_unscaled}
use Rattle.rounding.proofs.Units.{plus, minus}
use Rattle.rounding.proofs.Products.{Fraction, Image}
use Rattle.rounding.proofs.Order.{Tolerance, near_units}
use Rattle.rounding.proofs.Exact.{Balance, size_of_balance}

-- ---- in numbers: p - n is (up - down) / d but for E / (d * B), and g is the size of up - down
module _ (p n t d B up down E g : ℕ) (image : Within ((p * d + down) * B) ((n * d + up) * B) E) where
  test_then_near : (g + down ≡ up) ⊎ (g + up ≡ down) → Within p n t → g * B ≤ t * d * B + E
  test_then_near apart w = go apart (within_scaled (d * B) w)
    where
      go : (g + down ≡ up) ⊎ (g + up ≡ down) → Within (p * (d * B)) (n * (d * B)) (t * (d * B)) → g * B ≤ t * d * B + E
      go (inl e) w = omega (arith, ap (λ (x : ℕ). x * B) e)
      go (inr e) w = omega (arith, ap (λ (x : ℕ). x * B) e)

  near_then_test : 0 < d * B → (g + down ≡ up) ⊎ (g + up ≡ down) → g * B + E ≤ t * d * B → Within p n t
  near_then_test pos (inl e) h = within_unscaled {m = d * B} pos (omega (arith, ap (λ (x : ℕ). x * B) e))
  near_then_test pos (inr e) h = within_unscaled {m = d * B} pos (omega (arith, ap (λ (x : ℕ). x * B) e))

-- ---- of the float image z, the exact sum Z / whole and the tolerance t
module _
    {f : Format} {z t : Float} {x : Fraction} {Z : ℤ} {E : ℕ} (image : Image f z x E) (balance : Balance Z x.up x.down) (tol : Tolerance f t)
  where
    abbrev B : ℕ
    B = 2 ^ prec f

    pub accepted_near : T (le z t && le (neg z) t) → nat_abs Z * B ≤ size_in f t * x.whole * B + E
    accepted_near h =
        let apart = size_of_balance Z x.up x.down balance in
        let near = (near_units f z t image.held tol).0 h in
        test_then_near (plus f z) (minus f z) (size_in f t) x.whole B x.up x.down E (nat_abs Z) image.close apart near

    pub near_accepted : 0 < x.whole → nat_abs Z * B + E ≤ size_in f t * x.whole * B → T (le z t && le (neg z) t)
    near_accepted pos h =
        let apart = size_of_balance Z x.up x.down balance in
        let positive = mul-pos pos (pow_pos (prec f)) in
        (near_units f z t image.held tol).1
        (near_then_test (plus f z) (minus f z) (size_in f t) x.whole B x.up x.down E (nat_abs Z) image.close positive apart h)
