-- The slopes are those of the shape values: the terms of the 18 equations cancel. Assumes nothing.
use mathlib.Core.List.{◌∷◌}
use Rattle.integers.specs.Integers.{integers}
use Rattle.integers.proofs.Expression.{expressions}
use Rattle.integers.proofs.Solve.{solve_each}
use Rattle.integers.proofs.Slopes.{H, Q, changes, rises, slopes_of}
use Rattle.prism_shape.specs.Shape.{shape_in, slope_in, SlopesOfTheShape}

pub slopes_of_the_shape : SlopesOfTheShape
slopes_of_the_shape =
    slopes_of 6 (shape_in integers) (slope_in integers)
    (λ q h. solve_each (h ∷ q) (changes expressions 6 (shape_in expressions) Q H) (rises expressions 6 (slope_in expressions) Q H) tt)
