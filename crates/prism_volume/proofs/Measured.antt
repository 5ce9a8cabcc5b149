-- The sum over the points of two lists that are whole is the sum over the lists. Assumes nothing.
use Prim.Native.Nat.{ℕ, ◌*◌, ◌/◌, ◌%◌}
use native.Mathlib.Nat.{add-zero}
use native.Mathlib.Omega.{arith}
use mathlib.Core.Path.{◌≡◌, ap, ◌∙◌}
use mathlib.Core.Bool.{false}
use mathlib.Core.List.{List}
use lib.Ieee.{Float}
use lib.ListN.{length}
use Rattle.answer.specs.Answer.{answered}
use Rattle.binary64.specs.Binary64.{◌⊕◌, ◌⊗◌, ◌!◌, f0}
use Rattle.quadrature.specs.Points.{point_count, not_whole, too_few_or_many, not_one_to16, points_of, point}
use Rattle.quadrature.proofs.Points.{place_at, weight_at, point_at}
use Rattle.quadrature.proofs.Same.{fold_same}
use Rattle.prism_volume.specs.Volume.{term_at, term_of, one4th, sum_over, sum_of_terms, volume_answer}

module _ (p line triangle : List Float) (whole_l : not_whole 2 line ≡ false) (whole_t : not_whole 3 triangle ≡ false) where
  abbrev at_l : ℕ → List Float
  at_l = point (points_of 2 line)

  abbrev at_t : ℕ → List Float
  at_t = point (points_of 3 triangle)

  same_term : (i j : ℕ) → term_of p (at_l i) (at_t j) ≡ term_at p line triangle i j
  unfolding term_of term_at
  same_term i j =
      let first : at_t j ! 0 ≡ triangle ! (3 * j) = point_at 3 triangle whole_t j 0 (omega arith) ∙ ap (λ k. triangle ! k) (add-zero (3 * j)) in
      rw (
        place_at line whole_l i,
        weight_at line whole_l i,
        first,
        point_at 3 triangle whole_t j 1 (omega arith),
        point_at 3 triangle whole_t j 2 (omega arith),
      )

  same_sum : (m n : ℕ) → sum_over m n (λ i j. term_of p (at_l i) (at_t j)) ≡ sum_of_terms p line triangle m n
  unfolding sum_over
  same_sum m n = fold_same ◌⊕◌ f0 (m * n) (λ t. same_term (t / n) (t % n))

  pub measured : {quad_l quad_t : List (List Float)} {sum : Float} → quad_l ≡ points_of 2 line → length quad_l ≡ point_count 2 line
      → quad_t ≡ points_of 3 triangle → length quad_t ≡ point_count 3 triangle
      → too_few_or_many (length quad_l) ≡ false → too_few_or_many (length quad_t) ≡ false
      → sum ≡ sum_over (length quad_l) (length quad_t) (λ i j. term_of p (point quad_l i) (point quad_t j))
      → answered (sum ⊗ one4th) ≡ volume_answer p line triangle
  measured {quad_l = quad_l} {quad_t = quad_t} {sum = sum} are_l many_l are_t many_t few_l few_t is =
      let few_in_l : not_one_to16 2 line ≡ false = rw many_l at few_l in
      let few_in_t : not_one_to16 3 triangle ≡ false = rw many_t at few_t in
      let summed : sum ≡ sum_over (point_count 2 line) (point_count 3 triangle) (λ i j. term_of p (at_l i) (at_t j)) = is ∙ rw (many_l, many_t, are_l, are_t) in
      rw (whole_l, whole_t, few_in_l, few_in_t, summed, same_sum (point_count 2 line) (point_count 3 triangle))
