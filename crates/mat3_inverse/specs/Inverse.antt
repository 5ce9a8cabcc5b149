-- The inverse of a 3 by 3 matrix, by its cofactors: document 01, "Four matrix functions of 002". Definitions and claims only.
use Rattle.std.specs.Prelude.{ℕ, ◌+◌, ◌≡◌, cond, List, Float, ℤ, ◌*ℤ◌}
use Rattle.numbers.specs.Rule.{tabulate}
use Rattle.numbers.specs.Arithmetic.{Arithmetic}
use Rattle.integers.specs.Integers.{integers}
use Rattle.binary64.specs.Binary64.{◌⊘◌, f1, is_zero, floats}
use Rattle.answer.specs.Answer.{Answer, answered, refused}
use Rattle.mat3_col_major.specs.Mat3.{matrix, entry, product_in, det_in, det, diagonal}

-- The formulas, one text for every arithmetic: in floats it is what the code computes, in whole numbers what is claimed below.
module _ {A : Type 0} (a : Arithmetic A) where
  open a use {◌⊖◌, ◌⊗◌, ◌!◌}

  infixl 75 ◌⊖◌
  infixl 80 ◌⊗◌
  infixl 90 ◌!◌
  -- what is left of the determinant where row i and column j are taken out, with its sign: rows and columns are counted round from them
  abbrev pub cofactor : List A → ℕ → ℕ → A
  cofactor m i j =
      entry a m (i + 1) (j + 1) ⊗ entry a m (i + 2) (j + 2) ⊖ entry a m (i + 1) (j + 2) ⊗ entry a m (i + 2) (j + 1)

  -- the cofactors, transposed, each times s
  abbrev pub scaled_cofactors_in : A → List A → List A
  scaled_cofactors_in s m = matrix (λ (i j : ℕ). s ⊗ cofactor m j i)

  -- the product of two matrices: m times each column of n
  abbrev pub times : List A → List A → List A
  times m n = matrix (λ (i j : ℕ). product_in a m (tabulate 3 (λ (k : ℕ). entry a n k j)) ! i)

abbrev pub scaled_cofactors : Float → List Float → List Float
scaled_cofactors s m = scaled_cofactors_in floats s m

-- In whole numbers a matrix times these is s times its determinant on the diagonal, and zero elsewhere: with one over the determinant for s, they are its
-- inverse.
abbrev pub CofactorsInvert : Type 0
CofactorsInvert =
    (s : ℤ) (m : List ℤ) → times integers m (scaled_cofactors_in integers s m) ≡ diagonal integers (s *ℤ det_in integers m)

-- "The last gives none when the determinant is plus or minus zero, never for NaN or infinity."
unfoldable pub inverse : List Float → Answer (List Float)
inverse m = cond (is_zero (det m)) (refused 1) (answered (scaled_cofactors (f1 ⊘ det m) m))
