-- 3 by 3 matrices, column by column: document 01, "Four matrix functions of 002". Definitions and claims only.
use Rattle.std.specs.Prelude.{ℕ, ◌+◌, ◌*◌, ◌%◌, ◌<◌, ◌≡◌, cond, List, eqb, Float, ℤ, pos, neg_ℤ}
use Rattle.numbers.specs.Rule.{tabulate, grid}
use Rattle.numbers.specs.Arithmetic.{Arithmetic}
use Rattle.integers.specs.Integers.{integers}
use Rattle.binary64.specs.Binary64.{floats}

-- where row i, column j stands; rows and columns are counted round, so that row 3 is row 0
abbrev pub place : ℕ → ℕ → ℕ
place i j = i % 3 + 3 * (j % 3)

-- the matrix whose row i, column j is f i j
abbrev pub matrix : {A : Type 0} → (ℕ → ℕ → A) → List A
matrix f = grid 3 3 (λ (j i : ℕ). f i j)

-- The formulas, one text for every arithmetic: in floats it is what the code computes, in whole numbers what is claimed below.
module _ {A : Type 0} (a : Arithmetic A) where
  open a use {zero, ◌⊕◌, ◌⊖◌, ◌⊗◌, ◌!◌}

  infixl 75 ◌⊕◌
  infixl 75 ◌⊖◌
  infixl 80 ◌⊗◌
  infixl 90 ◌!◌
  abbrev pub entry : List A → ℕ → ℕ → A
  entry m i j = m ! place i j

  -- row i times the vector, the columns in order
  abbrev pub product_in : List A → List A → List A
  product_in m v = tabulate 3 (λ (i : ℕ). entry m i 0 ⊗ v ! 0 ⊕ entry m i 1 ⊗ v ! 1 ⊕ entry m i 2 ⊗ v ! 2)

  -- one entry of each row, in the order of the rows: those of columns i, j and k
  abbrev pub term : List A → ℕ → ℕ → ℕ → A
  term m i j k = entry m 0 i ⊗ entry m 1 j ⊗ entry m 2 k

  -- the even orders of the columns, less the odd ones
  abbrev pub det_in : List A → A
  det_in m = term m 0 1 2 ⊕ term m 1 2 0 ⊕ term m 2 0 1 ⊖ term m 0 2 1 ⊖ term m 2 1 0 ⊖ term m 1 0 2

  -- columns c and d exchanged
  abbrev pub exchanged : ℕ → ℕ → List A → List A
  exchanged c d m = matrix (λ (i j : ℕ). entry m i (cond (eqb j c) d (cond (eqb j d) c j)))

  -- x on the diagonal, and zero elsewhere
  abbrev pub diagonal : A → List A
  diagonal x = matrix (λ (i j : ℕ). cond (eqb i j) x zero)

abbrev pub transposed : List Float → List Float
transposed m = matrix (λ (i j : ℕ). entry floats m j i)

abbrev pub product : List Float → List Float → List Float
product m v = product_in floats m v

abbrev pub det : List Float → Float
det m = det_in floats m

-- In whole numbers the determinant changes its sign where column c and the next one, counted round, are exchanged, and that of the unit matrix is one.
pub record SignedByColumns : Type 0 where
  pub turned : (m : List ℤ) (c : ℕ) → c < 3 → det_in integers (exchanged integers c ((c + 1) % 3) m) ≡ neg_ℤ (det_in integers m)
  pub unit : det_in integers (diagonal integers (pos 1)) ≡ pos 1
