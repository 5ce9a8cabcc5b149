-- The volume of a hexahedron, by points that the caller lends. Definitions only.
use Rattle.std.specs.Prelude.{ℕ, ◌/◌, ◌%◌, ◌^◌, cond, List, [], ◌∷◌, Float}
use Rattle.numbers.specs.Rule.{fold_to}
use Rattle.binary64.specs.Binary64.{◌⊕◌, ◌⊗◌, ◌!◌, f0}
use Rattle.answer.specs.Answer.{Answer, answered, refused}
use Rattle.mat3_col_major.specs.Mat3.{det}
use Rattle.quadrature.specs.Points.{point_count, not_whole, not_one_to16, place, weight}
use Rattle.hex_image.specs.Image.{jacobian_at}

-- what three points add: the determinant of the Jacobian, handed over row by row and not transposed, times the product of their weights
unfoldable pub term_at : List Float → List Float → ℕ → ℕ → ℕ → Float
term_at p points i j k =
    det (jacobian_at p (place points i ∷ place points j ∷ place points k ∷ []))
    ⊗ (weight points i ⊗ weight points j ⊗ weight points k)

-- the same of three points that stand alone
unfoldable pub term_of : List Float → List Float → List Float → List Float → Float
term_of p a b c = det (jacobian_at p (a ! 0 ∷ b ! 0 ∷ c ! 0 ∷ [])) ⊗ (a ! 1 ⊗ b ! 1 ⊗ c ! 1)

-- "Hex volume sums over the three point indices, last one fastest, from plus zero": n points make n ^ 3 terms, and the three indices of
-- term t are the digits of t in base n
unfoldable pub sum_over : ℕ → (ℕ → ℕ → ℕ → Float) → Float
sum_over n term = fold_to ◌⊕◌ f0 (n ^ 3) (λ (t : ℕ). term (t / n / n) (t / n % n) (t % n))

abbrev pub sum_of_terms : List Float → List Float → ℕ → Float
sum_of_terms p points n = sum_over n (term_at p points)

-- "Volume and gradient: 8, 7, 9"
abbrev pub volume : List Float → List Float → Answer Float
volume p points =
    cond (not_whole 2 points) (refused 8)
    (cond (not_one_to16 2 points) (refused 7)
    (answered (sum_of_terms p points (point_count 2 points))))
