-- How large the volume of a cell on the grid can be: 18 times three determinants of six products each. Assumes nothing.
use Prim.Native.Nat.{ℕ, ◌+◌, ◌-◌}
use mathlib.Core.Path.{subst⁻¹}
use mathlib.Core.Bool.{Bool, true, false, cond}
use lib.Dec.{ltb}
use lib.IntN.{ℤ}
use Rattle.integers.specs.Sizes.{Within}
use Rattle.integers.proofs.Straight.{arg, num, codes, exact}
use Rattle.exact_volume.specs.Volume.{volume216}
use Rattle.exact_volume.specs.Determinants.{by_determinants}
use Rattle.exact_volume.proofs.Determinants.{three_determinants}

module _ (x y z : ℕ → ℤ) (small_x : (k : ℕ) → Within 1024 (x k)) (small_y : (k : ℕ) → Within 1024 (y k)) (small_z : (k : ℕ) → Within 1024 (z k)) where
  -- the 24 coordinates, axis by axis
  abbrev coordinate : ℕ → ℤ
  coordinate i = cond (ltb i 8) (x i) (cond (ltb i 16) (y (i - 8)) (z (i - 16)))

  coordinate_small : (i : ℕ) → Within 1024 (coordinate i)
  coordinate_small i = by (ltb i 8) (ltb i 16)
    where
      by : (a b : Bool) → Within 1024 (cond a (x i) (cond b (y (i - 8)) (z (i - 16))))
      by true b = small_x i
      by false true = small_y (i - 8)
      by false false = small_z (i - 16)

  -- 18 · 3 · 6 · 4,096 · 2,048 · 2,048
  pub volume_small : Within 5566277615616 (volume216 x y z)
  volume_small =
      subst⁻¹ (Within 5566277615616) (three_determinants x y z)
      (exact (λ i. 1024) coordinate coordinate_small
      (by_determinants codes num (λ (k : ℕ). arg k) (λ (k : ℕ). arg (8 + k)) (λ (k : ℕ). arg (16 + k)))
      tt).sized
