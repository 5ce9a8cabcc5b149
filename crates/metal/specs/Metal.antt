-- Cutting a cell in eight makes no metal: document 02, 5/12. Where a child's corners stand is written over any numbers with sum, product and numerals: in whole
-- numbers it is what the law speaks of, and in expressions of unknown corners it is what a proof computes with. Definitions and claims only.
use Rattle.std.specs.Prelude.{ℕ, ◌*◌, ◌/◌, ◌<◌, ◌≡◌, List, [], ◌∷◌, ℤ, pos, ◌*ℤ◌, length, get_or}
use Rattle.numbers.specs.Arithmetic.{Arithmetic}
use Rattle.integers.specs.Integers.{integers}
use Rattle.integers.specs.Sums.{sum_to}
use Rattle.hex_children.specs.Children.{nodes, child_node}
use Rattle.exact_volume.specs.Volume.{volume216}

module _ {A : Type 0} (a : Arithmetic A) (number : ℕ → A) where
  open a use {◌⊕◌, ◌⊗◌}

  infixl 75 ◌⊕◌
  infixl 80 ◌⊗◌
  -- the sum of x over some nodes
  abbrev pub sum_in : (ℕ → A) → List ℕ → A
  sum_in x [] = a.zero
  sum_in x (c ∷ cs) = x c ⊕ sum_in x cs

  -- "scale all coordinates by eight, so that edge, face and cell middles are whole": eight times the middle of some nodes, where x is their coordinate
  abbrev pub eight_middle_in : (ℕ → A) → List ℕ → A
  eight_middle_in x cs = number (8 / length cs) ⊗ sum_in x cs

  -- corner k of child i on one axis, scaled so: in the middle of the corners that `children` has for it
  abbrev pub child_axis_in : (ℕ → A) → ℕ → ℕ → A
  child_axis_in x i k = eight_middle_in x (get_or nodes (child_node i k) [])

-- in whole numbers
abbrev pub eight_middle : (ℕ → ℤ) → List ℕ → ℤ
eight_middle x cs = eight_middle_in integers pos x cs

abbrev pub child_axis : (ℕ → ℤ) → ℕ → ℕ → ℤ
child_axis x i k = child_axis_in integers pos x i k

-- 216 times the volume of child i, where corner k of the cell stands at x k, y k and z k
abbrev pub child_volume : (x y z : ℕ → ℤ) → ℕ → ℤ
child_volume x y z i = volume216 (child_axis x i) (child_axis y i) (child_axis z i)

-- Eight is enough: a node of a refined cell stands in the middle of one, two, four or eight corners, and the division leaves nothing over.
abbrev pub MiddlesWhole : Type 0
MiddlesWhole = (m : ℕ) → m < 27 → 8 / length (get_or nodes m []) * length (get_or nodes m []) ≡ 8

-- "the exact signed volumes of the eight children then add up to 512 times the parent's, for any eight corners, folded ones too"
pub record ChildrenKeepTheMetal : Type 0 where
  pub times512 : (x y z : ℕ → ℤ) → sum_to 8 (child_volume x y z) ≡ pos 512 *ℤ volume216 x y z
  -- which is what the cell itself holds on that grid
  pub scaled : (x y z : ℕ → ℤ) → sum_to 8 (child_volume x y z)
      ≡ volume216 (λ (k : ℕ). pos 8 *ℤ x k) (λ (k : ℕ). pos 8 *ℤ y k) (λ (k : ℕ). pos 8 *ℤ z k)
