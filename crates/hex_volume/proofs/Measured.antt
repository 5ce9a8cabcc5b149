-- The sum over the points of a list that is whole is the sum over the list. Assumes nothing.
use Prim.Native.Nat.{ℕ, ◌/◌, ◌%◌, ◌^◌}
use mathlib.Core.Path.{◌≡◌, ◌∙◌}
use mathlib.Core.Bool.{false}
use mathlib.Core.List.{List}
use lib.Ieee.{Float}
use lib.ListN.{length}
use Rattle.answer.specs.Answer.{answered}
use Rattle.binary64.specs.Binary64.{◌⊕◌, f0}
use Rattle.quadrature.specs.Points.{point_count, not_whole, too_few_or_many, not_one_to16, points_of, point}
use Rattle.quadrature.proofs.Points.{place_at, weight_at}
use Rattle.quadrature.proofs.Same.{fold_same}
use Rattle.hex_volume.specs.Volume.{term_at, term_of, sum_over, sum_of_terms, volume}

module _ (p list : List Float) (whole : not_whole 2 list ≡ false) where
  abbrev at : ℕ → List Float
  at = point (points_of 2 list)

  same_term : (i j k : ℕ) → term_of p (at i) (at j) (at k) ≡ term_at p list i j k
  unfolding term_of term_at
  same_term i j k =
      rw (
        place_at list whole i,
        place_at list whole j,
        place_at list whole k,
        weight_at list whole i,
        weight_at list whole j,
        weight_at list whole k,
      )

  same_sum : (n : ℕ) → sum_over n (λ i j k. term_of p (at i) (at j) (at k)) ≡ sum_of_terms p list n
  unfolding sum_over
  same_sum n = fold_same ◌⊕◌ f0 (n ^ 3) (λ t. same_term (t / n / n) (t / n % n) (t % n))

  pub measured : {points : List (List Float)} {sum : Float} → points ≡ points_of 2 list → length points ≡ point_count 2 list
      → too_few_or_many (length points) ≡ false → sum ≡ sum_over (length points) (λ i j k. term_of p (point points i) (point points j) (point points k))
      → answered sum ≡ volume p list
  measured {points = points} {sum = sum} are many few is =
      let few_in : not_one_to16 2 list ≡ false = rw many at few in
      let summed : sum ≡ sum_over (point_count 2 list) (λ i j k. term_of p (at i) (at j) (at k)) = is ∙ rw (many, are) in
      rw (whole, few_in, summed, same_sum (point_count 2 list))
