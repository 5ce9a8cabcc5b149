-- The slopes of the shape values in space, and the determinant of the Jacobian. Definitions and claims only.
use Rattle.std.specs.Prelude.{ℕ, ◌+◌, ◌*◌, ◌≡◌, List, Float, ℤ}
use Rattle.numbers.specs.Rule.{grid}
use Rattle.numbers.specs.Arithmetic.{Arithmetic}
use Rattle.integers.specs.Integers.{integers}
use Rattle.binary64.specs.Binary64.{◌⊗◌, ◌⊘◌, ◌!◌, f1, floats}
use Rattle.mat3_col_major.specs.Mat3.{term, det_in}
use Rattle.mat3_inverse.specs.Inverse.{scaled_cofactors}
use Rattle.cell.specs.Image.{corner, sum, jacobian}
use Rattle.hex_shape.specs.Shape.{shape, slopes}
use Rattle.hex_gradient.specs.declared.Gradient.{Gradient}
use Rattle.hex_gradient.specs.declared.ShapeGradient.{ShapeGradient}

module _ {A : Type 0} (a : Arithmetic A) where
  open a use {◌⊕◌, ◌⊖◌}

  infixl 75 ◌⊕◌
  infixl 75 ◌⊖◌
  -- the determinant of the Jacobian as the gradient has it, in every arithmetic: the six products of `det`, the last two taken off in the other order
  abbrev pub gradient_det_in : List A → A
  gradient_det_in jac =
      term a jac 0 1 2 ⊕ term a jac 1 2 0 ⊕ term a jac 2 0 1 ⊖ term a jac 0 2 1 ⊖ term a jac 1 0 2 ⊖ term a jac 2 1 0

abbrev pub gradient_det : List Float → Float
gradient_det jac = gradient_det_in floats jac

-- In whole numbers, where no order matters, it is the determinant.
abbrev pub GradientDetIsDet : Type 0
GradientDetIsDet = (m : List ℤ) → gradient_det_in integers m ≡ det_in integers m

-- the slope of shape value k along axis j of space: its slope along each coordinate a of the cell, times the slope of a along j
abbrev pub slope_in_space : List Float → List Float → ℕ → ℕ → Float
slope_in_space dndr drdx k j = sum 3 (λ (a : ℕ). corner dndr k a ⊗ drdx ! (3 * a + j))

-- corner by corner, three slopes each
abbrev pub slopes_in_space : List Float → List Float → List Float
slopes_in_space dndr drdx = grid 8 3 (slope_in_space dndr drdx)

-- drdx is the inverse of the Jacobian, row by row as that is: the cofactors over the determinant.
-- "A zero determinant in the gradient gives what division by zero gives; it is not refused."
unfoldable pub from_jacobian : List Float → List Float → Gradient
from_jacobian dndr jac =
    record { dndx = slopes_in_space dndr (scaled_cofactors (f1 ⊘ gradient_det jac) jac); detjac = gradient_det jac }

-- `grad_shapefunc_from_dndr`
abbrev pub gradient : List Float → List Float → Gradient
gradient p dndr = from_jacobian dndr (jacobian 8 p dndr)

-- `dndx`: at the place q, with the shape values
unfoldable pub shape_gradient : List Float → List Float → ShapeGradient
shape_gradient p q =
    let g = gradient p (slopes q) in
    record { shape = shape q; dndx = g.dndx; detjac = g.detjac }
