-- A matrix of whole numbers times its cofactors is its determinant times one: the terms of the nine equations cancel. Assumes nothing.
use Prim.Native.Nat.{suc}
use mathlib.Core.List.{List, ◌∷◌}
use Rattle.numbers.specs.Rule.{tabulate}
use Rattle.integers.proofs.Expression.{Expression, var, ◌⊠◌, expressions}
use Rattle.integers.proofs.Solve.{solve_each}
use Rattle.mat3_col_major.specs.Mat3.{det_in, diagonal}
use Rattle.mat3_inverse.specs.Inverse.{times, scaled_cofactors_in, CofactorsInvert}

-- s is variable 0, and the matrix is the next nine
abbrev S : Expression
S = var 0

abbrev M : List Expression
M = tabulate 9 (λ k. var (suc k))

pub cofactors_invert : CofactorsInvert
cofactors_invert s m =
    solve_each (s ∷ m) (times expressions M (scaled_cofactors_in expressions S M)) (diagonal expressions (S ⊠ det_in expressions M)) tt
