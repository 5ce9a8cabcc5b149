-- What makes numbers the slopes of values along the axes, in whole numbers. Definitions only.
use Rattle.std.specs.Prelude.{ℕ, ◌<◌, ◌≡◌, cond, List, eqb, ℤ, ◌-ℤ◌, ◌*ℤ◌}
use Rattle.numbers.specs.Rule.{tabulate}
use Rattle.numbers.specs.Arithmetic.{Arithmetic}
use Rattle.integers.specs.Integers.{integers}

module _ {A : Type 0} (a : Arithmetic A) where
  open a use {◌⊕◌, ◌!◌}

  infixl 75 ◌⊕◌
  infixl 90 ◌!◌
  -- the place q, h further along axis j
  abbrev pub moved : List A → ℕ → A → List A
  moved q j h = tabulate 3 (λ (i : ℕ). cond (eqb i j) (q ! i ⊕ h) (q ! i))

-- A slope is a difference of values: where a place is moved by h along axis j, value k changes by h times its slope there. (Each value goes evenly along
-- each axis by itself.)
abbrev pub SlopesOf : ℕ → (List ℤ → ℕ → ℤ) → (List ℤ → ℕ → ℕ → ℤ) → Type 0
SlopesOf n value slope =
    (q : List ℤ) (h : ℤ) (k j : ℕ) → k < n → j < 3 → value (moved integers q j h) k -ℤ value q k ≡ h *ℤ slope q k j
