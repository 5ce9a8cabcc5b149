-- `hex_weighted_gradient::grad_at_points` meets its contract: the gradient at the place that was read, and three products. Assumes nothing.
use Rattle.hex_weighted_gradient.specs.Weighted.{of_points}
use Rattle.hex_weighted_gradient.proofs.grad_at_points.Goals as goal

pub returns : goal.returns
unfolding of_points
returns c =
    simp (c.slopes_at-detjac.ensures.determinant, c.slopes_at-detjac.ensures.slopes)
