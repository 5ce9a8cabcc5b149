-- `mat3_inverse::try_inverse` meets its contract: the test is the definition's, and the nine floats are `scaled_cofactors`'. Assumes nothing.
use Rattle.mat3_inverse.specs.Inverse.{inverse}
use Rattle.mat3_inverse.proofs.try_inverse.Goals as goal

pub returns-then-det : goal.returns-then-det
unfolding inverse
returns-then-det c = simp (← c.determinant-det.ensures, c.if-det.true)

pub returns : goal.returns
unfolding inverse
returns c = simp (c.scaled_cofactors.ensures, ← c.determinant-det.ensures, c.if-det.false)
