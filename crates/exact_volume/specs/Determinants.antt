-- The same number as 18 times the sum of three determinants of differences of corners, which is how it is computed. Definitions and claims only.
use Rattle.std.specs.Prelude.{ℕ, ◌≡◌, List, [], ◌∷◌, ◌++◌, ℤ, pos}
use Rattle.numbers.specs.Arithmetic.{Arithmetic}
use Rattle.integers.specs.Integers.{integers}
use Rattle.mat3_col_major.specs.Mat3.{det_in}
use Rattle.exact_volume.specs.Volume.{volume216}

module _ {A : Type 0} (a : Arithmetic A) (number : ℕ → A) where
  open a use {◌⊕◌, ◌⊖◌, ◌⊗◌}

  infixl 75 ◌⊕◌
  infixl 75 ◌⊖◌
  infixl 80 ◌⊗◌
  -- one axis of a part: p and q are next to corner 0, and u and v next to corner 6, which lies across from it
  abbrev pub along : (ℕ → A) → ℕ → ℕ → ℕ → ℕ → List A
  along x p q u v = (x p ⊖ x q ⊕ (x u ⊖ x v)) ∷ (x 6 ⊖ x p) ∷ (x v ⊖ x 0) ∷ []

  abbrev pub part : (x y z : ℕ → A) → ℕ → ℕ → ℕ → ℕ → A
  part x y z p q u v = det_in a (along x p q u v ++ (along y p q u v ++ along z p q u v))

  abbrev pub by_determinants : (x y z : ℕ → A) → A
  by_determinants x y z = number 18 ⊗ (part x y z 3 1 7 2 ⊕ part x y z 4 3 5 7 ⊕ part x y z 1 4 2 5)

-- They are equal for any corners.
abbrev pub ThreeDeterminants : Type 0
ThreeDeterminants = (x y z : ℕ → ℤ) → volume216 x y z ≡ by_determinants integers pos x y z
