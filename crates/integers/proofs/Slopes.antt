-- That slopes are those of their values is one list of equations, solved at once. Assumes nothing.
use Prim.Native.Nat.{ℕ, ◌+◌, ◌*◌, ◌/◌, ◌%◌}
use native.Mathlib.Omega.{arith}
use mathlib.Core.Path.{◌≡◌}
use mathlib.Core.List.{List, [], ◌∷◌}
use lib.IntN.{ℤ, ◌-ℤ◌, ◌*ℤ◌}
use Rattle.numbers.specs.Rule.{grid}
use Rattle.numbers.specs.Arithmetic.{Arithmetic}
use Rattle.numbers.proofs.Tabulate.{tabulate_same}
use Rattle.integers.specs.Integers.{integers}
use Rattle.integers.specs.Slopes.{moved, SlopesOf}
use Rattle.integers.proofs.Expression.{Expression, var}

-- corner by corner, three each: the changes of the values, and h times the slopes
module _ {A : Type 0} (a : Arithmetic A) where
  abbrev pub changes : ℕ → (List A → ℕ → A) → List A → A → List A
  changes n value q h = grid n 3 (λ (k j : ℕ). a.◌⊖◌ (value (moved a q j h) k) (value q k))

  abbrev pub rises : ℕ → (List A → ℕ → ℕ → A) → List A → A → List A
  rises n slope q h = grid n 3 (λ (k j : ℕ). a.◌⊗◌ h (slope q k j))

-- h is variable 0, and the place is the next three
abbrev pub H : Expression
H = var 0

abbrev pub Q : List Expression
Q = var 1 ∷ var 2 ∷ var 3 ∷ []

pub slopes_of : (n : ℕ) (value : List ℤ → ℕ → ℤ) (slope : List ℤ → ℕ → ℕ → ℤ)
    → ((q : List ℤ) (h : ℤ) → changes integers n value q h ≡ rises integers n slope q h) → SlopesOf n value slope
slopes_of n value slope e q h k j below axis =
    let row : (3 * k + j) / 3 ≡ k = omega arith in
    let column : (3 * k + j) % 3 ≡ j = omega arith in
    rw (row, column) at (tabulate_same (n * 3)
    (λ (i : ℕ). value (moved integers q (i % 3) h) (i / 3) -ℤ value q (i / 3))
    (λ (i : ℕ). h *ℤ slope q (i / 3) (i % 3))
    (e q h) (3 * k + j) (omega arith))
