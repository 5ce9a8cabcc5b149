-- The slopes of the shape values in space at a quadrature point, and the determinant times its weights. Definitions only.
use Rattle.std.specs.Prelude.{ℕ, cond, ◌||◌, List, [], ◌∷◌, leb, Float}
use Rattle.answer.specs.Answer.{Answer, answered, refused}
use Rattle.binary64.specs.Binary64.{◌⊗◌, ◌!◌}
use Rattle.quadrature.specs.Points.{point_count, not_whole, not_one_to16, place, weight, point}
use Rattle.hex_gradient.specs.Gradient.{shape_gradient}

-- at the place that three points of a list give: the slopes, and the determinant times the three weights, one at a time
unfoldable pub at_points : List Float → List Float → ℕ → ℕ → ℕ → List Float × Float
at_points p points i j k =
    let g = shape_gradient p (place points i ∷ place points j ∷ place points k ∷ []) in
    (g.dndx, g.detjac ⊗ weight points i ⊗ weight points j ⊗ weight points k)

-- the same of three points that stand alone
unfoldable pub of_points : List Float → List (List Float) → List Float × Float
of_points p points =
    let a = point points 0 in
    let b = point points 1 in
    let c = point points 2 in
    let g = shape_gradient p (a ! 0 ∷ b ! 0 ∷ c ! 0 ∷ []) in
    (g.dndx, g.detjac ⊗ a ! 1 ⊗ b ! 1 ⊗ c ! 1)

-- `grad_shapefunc`. "Volume and gradient: 8, 7, 9"; 9 is that "a .. point number" is "out of range"
abbrev pub weighted_gradient : List Float → List Float → ℕ → ℕ → ℕ → Answer (List Float × Float)
weighted_gradient p points i j k =
    let n = point_count 2 points in
    cond (not_whole 2 points) (refused 8)
    (cond (not_one_to16 2 points) (refused 7)
    (cond (leb n i || leb n j || leb n k) (refused 9)
    (answered (at_points p points i j k))))
