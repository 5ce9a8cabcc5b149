-- `hex_gradient::dndx` meets its contract: its three calls composed. Assumes nothing.
use Rattle.hex_gradient.specs.Gradient.{shape_gradient}
use Rattle.hex_gradient.proofs.dndx.Goals as goal

pub returns : goal.returns
unfolding shape_gradient
returns c = simp (c.grad_shapefunc_from_dndr-detjac.ensures, c.shapefunc.ensures, c.dndr.ensures)
