-- The volume of a prism, by points that the caller lends. Definitions only.
-- A line point is two floats, its place and its weight; a triangle point is three, its two coordinates and its weight.
use Rattle.std.specs.Prelude.{ℕ, ◌+◌, ◌*◌, ◌/◌, ◌%◌, cond, List, [], ◌∷◌, Float}
use Rattle.numbers.specs.Rule.{fold_to}
use Rattle.binary64.specs.Binary64.{◌⊕◌, ◌⊗◌, ◌⊘◌, ◌!◌, f0, f1, f2}
use Rattle.answer.specs.Answer.{Answer, answered, refused}
use Rattle.mat3_col_major.specs.Mat3.{det}
use Rattle.quadrature.specs.Points.{point_count, not_whole, not_one_to16, place, weight}
use Rattle.prism_image.specs.Image.{jacobian_at}

-- one half and one quarter, worked out as the source does
abbrev pub half : Float
half = f1 ⊘ f2

abbrev pub one4th : Float
one4th = half ⊗ half

-- triangle point j at the height of line point i: the line goes from -1 to 1, the prism from 0 to 1
abbrev pub point_at : List Float → List Float → ℕ → ℕ → List Float
point_at line triangle i j = triangle ! (3 * j) ∷ triangle ! (3 * j + 1) ∷ (place line i ⊕ f1) ⊗ half ∷ []

-- the line's weight times the triangle's
abbrev pub weight_of : List Float → List Float → ℕ → ℕ → Float
weight_of line triangle i j = weight line i ⊗ triangle ! (3 * j + 2)

-- what two points add: the determinant of the Jacobian, handed over row by row, times their weight
unfoldable pub term_at : List Float → List Float → List Float → ℕ → ℕ → Float
term_at p line triangle i j = det (jacobian_at p (point_at line triangle i j)) ⊗ weight_of line triangle i j

-- the same of a line point and a triangle point that stand alone
unfoldable pub term_of : List Float → List Float → List Float → Float
term_of p line triangle =
    det (jacobian_at p (triangle ! 0 ∷ triangle ! 1 ∷ (line ! 0 ⊕ f1) ⊗ half ∷ [])) ⊗ (line ! 1 ⊗ triangle ! 2)

-- "The prism's line points are outer, its triangle points inner": m line points and n triangle points make m * n terms, added up from
-- plus zero, and term t is that of line point t / n and triangle point t % n
unfoldable pub sum_over : ℕ → ℕ → (ℕ → ℕ → Float) → Float
sum_over m n term = fold_to ◌⊕◌ f0 (m * n) (λ (t : ℕ). term (t / n) (t % n))

abbrev pub sum_of_terms : List Float → List Float → List Float → ℕ → ℕ → Float
sum_of_terms p line triangle m n = sum_over m n (term_at p line triangle)

-- "Volume and gradient: 8, 7, 9 (for prisms each number looks at the line list first)."
abbrev pub volume_answer : List Float → List Float → List Float → Answer Float
volume_answer p line triangle =
    cond (not_whole 2 line) (refused 8)
    (cond (not_whole 3 triangle) (refused 8)
    (cond (not_one_to16 2 line) (refused 7)
    (cond (not_one_to16 3 triangle) (refused 7)
    (answered (sum_of_terms p line triangle (point_count 2 line) (point_count 3 triangle) ⊗ one4th)))))
