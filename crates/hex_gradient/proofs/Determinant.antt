-- The gradient's determinant is the determinant, in whole numbers: the terms of their difference cancel. Assumes nothing.
use mathlib.Core.List.{List}
use Rattle.numbers.specs.Rule.{tabulate}
use Rattle.integers.proofs.Expression.{Expression, var, expressions}
use Rattle.integers.proofs.Solve.{solve}
use Rattle.mat3_col_major.specs.Mat3.{det_in}
use Rattle.hex_gradient.specs.Gradient.{gradient_det_in, GradientDetIsDet}

-- the matrix of the variables 0 to 8
abbrev M : List Expression
M = tabulate 9 var

pub gradient_det_is_det : GradientDetIsDet
gradient_det_is_det m = solve m (gradient_det_in expressions M) (det_in expressions M) tt
