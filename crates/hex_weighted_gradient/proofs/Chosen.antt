-- The gradient at three points that a list has is that at the points alone. Assumes nothing.
use Prim.Native.Nat.{ℕ}
use mathlib.Core.Path.{◌≡◌}
use mathlib.Core.Bool.{false}
use mathlib.Core.List.{List, [], ◌∷◌}
use lib.Dec.{leb}
use lib.Ieee.{Float}
use lib.ListN.{length}
use Rattle.answer.specs.Answer.{answered}
use Rattle.quadrature.specs.Points.{point_count, not_whole, too_few_or_many, not_one_to16, points_of, point}
use Rattle.quadrature.proofs.Points.{place_at, weight_at}
use Rattle.hex_weighted_gradient.specs.Weighted.{at_points, of_points, weighted_gradient}

module _ (list : List Float) (whole : not_whole 2 list ≡ false) (i j k : ℕ) where
  abbrev at : ℕ → List Float
  at = point (points_of 2 list)

  same : (p : List Float) → at_points p list i j k ≡ of_points p (at i ∷ at j ∷ at k ∷ [])
  unfolding at_points of_points
  same p =
      rw (
        place_at list whole i,
        place_at list whole j,
        place_at list whole k,
        weight_at list whole i,
        weight_at list whole j,
        weight_at list whole k,
      )

  pub chosen : {points : List (List Float)} {a b c : List Float} → points ≡ points_of 2 list → length points ≡ point_count 2 list
      → too_few_or_many (length points) ≡ false → leb (length points) i ≡ false → leb (length points) j ≡ false → leb (length points) k ≡ false
      → a ≡ point points i → b ≡ point points j → c ≡ point points k
      → (p : List Float) → weighted_gradient p list i j k ≡ answered (of_points p (a ∷ b ∷ c ∷ []))
  chosen are many few below_i below_j below_k a_is b_is c_is p =
      let few_in : not_one_to16 2 list ≡ false = rw many at few in
      let i_in : leb (point_count 2 list) i ≡ false = rw many at below_i in
      let j_in : leb (point_count 2 list) j ≡ false = rw many at below_j in
      let k_in : leb (point_count 2 list) k ≡ false = rw many at below_k in
      rw (whole, few_in, i_in, j_in, k_in, a_is, b_is, c_is, are, same p)
