-- `hex_gradient::slopes_at` meets its contract: its two calls composed. Assumes nothing.
use Rattle.hex_gradient.specs.Gradient.{shape_gradient}
use Rattle.hex_gradient.proofs.slopes_at.Goals as goal

pub returns : goal.returns
unfolding shape_gradient
returns c =
    record { determinant = simp (c.slopes_into.ensures.determinant, c.dndr-dndr.ensures); slopes = simp (c.slopes_into.ensures.slopes, c.dndr-dndr.ensures) }
