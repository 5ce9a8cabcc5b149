-- The eight exact weights are whole numbers that add up to `whole`. Assumes nothing.
use Prim.Native.Nat.{ℕ, zero, suc, ◌+◌, ◌*◌, ◌≤◌, ◌<◌}
use native.Mathlib.Nat.{zero-add}
use native.Mathlib.Omega.{arith}
use mathlib.Core.Path.{◌≡◌, refl, ap, ◌∙◌}
use mathlib.Core.Bool.{Bool, true, false}
use mathlib.Core.List.{List}
use lib.IntN.{ℤ, pos, ◌+ℤ◌}
use lib.Dec.{lit≤}
use lib.Ieee.{Float}
use Rattle.numbers.specs.Rule.{fold_to}
use Rattle.binary64.specs.Binary64.{◌!◌}
use Rattle.binary64.specs.Exact.{one, size}
use Rattle.hexahedron.specs.Cube.{upper}
use Rattle.probe.specs.Exact.{exact_weight, WeightsAddUp}
use Rattle.probe.proofs.Shape.{side_units, exact_side_lem, sides_both}
use Rattle.rounding.proofs.Sum.{later}
use Rattle.rounding.proofs.Products.{gathered}

abbrev pub weight : List Float → ℕ → ℕ
weight q k = side_units (upper k 0) (q ! 0) * side_units (upper k 1) (q ! 1) * side_units (upper k 2) (q ! 2)

-- a place in the cube
abbrev pub Small : List Float → Type 0
Small q = (i : ℕ) → i < 3 → size (q ! i) ≤ one

pub weight_exact : (q : List Float) → Small q → (k : ℕ) → exact_weight q k ≡ pos (weight q k)
weight_exact q small k =
    simp (
      exact_side_lem (upper k 0) (q ! 0) (small 0 (lit≤ tt)),
      exact_side_lem (upper k 1) (q ! 1) (small 1 (lit≤ tt)),
      exact_side_lem (upper k 2) (q ! 2) (small 2 (lit≤ tt)),
    )

-- a sum over the eight corners of products of their sides is the product of the sums of both sides
pub corner_sum : (s : Bool → ℕ → ℕ)
    → gathered ◌+◌ 7 (λ (k : ℕ). s (upper k 0) 0 * s (upper k 1) 1 * s (upper k 2) 2)
    ≡ (s true 0 + s false 0) * (s true 1 + s false 1) * (s true 2 + s false 2)
corner_sum s = expand (s true 0) (s false 0) (s true 1) (s false 1) (s true 2) (s false 2)
  where
    expand : (X x Y y Z z : ℕ)
        → x * y * z + X * y * z + X * Y * z + x * Y * z + x * y * Z + X * y * Z + X * Y * Z + x * Y * Z ≡ (X + x) * (Y + y) * (Z + z)
    expand X x Y y Z z = omega arith

pos_sum : (n a : ℕ) (f : ℕ → ℤ) (g : ℕ → ℕ) → ((k : ℕ) → f k ≡ pos (g k)) → fold_to ◌+ℤ◌ (pos a) n f ≡ pos (fold_to ◌+◌ a n g)
pos_sum zero a f g same = refl
pos_sum (suc n) a f g same = rw (same 0) (pos_sum n (a + g 0) (later f) (later g) (λ (k : ℕ). same (suc k)))

pub weights_add_up : WeightsAddUp
weights_add_up q small =
    pos_sum 8 0 (exact_weight q) (weight q) (weight_exact q small)
    ∙ ap (λ (a : ℕ). pos (fold_to ◌+◌ a 7 (later (weight q)))) (zero-add (weight q 0))
    ∙ ap pos (corner_sum (λ (up : Bool) (i : ℕ). side_units up (q ! i)) ∙ (simp (both 0 (lit≤ tt), both 1 (lit≤ tt), both 2 (lit≤ tt))))
  where
    both : (i : ℕ) → i < 3 → side_units true (q ! i) + side_units false (q ! i) ≡ 2 * one
    both i below = sides_both (q ! i) (small i below)
