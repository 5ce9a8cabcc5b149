-- The slopes are those of the shape values: the terms of the 24 equations cancel. Assumes nothing.
use mathlib.Core.List.{◌∷◌}
use lib.IntN.{pos}
use Rattle.integers.specs.Integers.{integers}
use Rattle.integers.proofs.Expression.{Expression, number, expressions}
use Rattle.integers.proofs.Solve.{solve_each}
use Rattle.integers.proofs.Slopes.{H, Q, changes, rises, slopes_of}
use Rattle.hex_shape.specs.Shape.{shape_in, slope_in, SlopesOfTheShape}

abbrev One : Expression
One = number (pos 1)

pub slopes_of_the_shape : SlopesOfTheShape
slopes_of_the_shape =
    slopes_of 8 (shape_in integers (pos 1)) (slope_in integers (pos 1))
    (λ q h. solve_each (h ∷ q) (changes expressions 8 (shape_in expressions One) Q H) (rises expressions 8 (slope_in expressions One) Q H) tt)
