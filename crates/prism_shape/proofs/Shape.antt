-- At each corner its own shape value is one and the others are plus zero: computed at the six corners. Assumes nothing.
use mathlib.Core.Path.{refl}
use lib.Ieee.{sub, mul, of_bits}
use Rattle.cell.proofs.Shape.{one_at_its_corner}
use Rattle.prism_shape.specs.Shape.{places, shape, CornersOfTheShape}

pub corners_of_the_shape : CornersOfTheShape
unfolding sub mul of_bits
corners_of_the_shape = one_at_its_corner 6 shape places refl
