-- At each corner its own shape value is one and the others are plus zero: computed at the eight corners. Assumes nothing.
use mathlib.Core.Path.{refl}
use lib.Ieee.{add, sub, mul, div, of_bits}
use Rattle.cell.proofs.Shape.{one_at_its_corner}
use Rattle.hexahedron.specs.Cube.{hex_sign}
use Rattle.hex_shape.specs.Shape.{shape, CornersOfTheShape}

pub corners_of_the_shape : CornersOfTheShape
unfolding add sub mul div of_bits
corners_of_the_shape = one_at_its_corner 8 shape hex_sign refl
