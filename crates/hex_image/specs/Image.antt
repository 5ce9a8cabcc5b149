-- The image of a place of the cube, and its Jacobian. A place is three floats; corners are 24, three a corner. Definitions only.
use Rattle.std.specs.Prelude.{List, Float}
use Rattle.cell.specs.Image.{image, jacobian}
use Rattle.hex_shape.specs.Shape.{shape, slopes}

-- the image of the place q, and its Jacobian, row by row
unfoldable pub image_at : List Float → List Float → List Float
image_at p q = image 8 (shape q) p

unfoldable pub jacobian_at : List Float → List Float → List Float
jacobian_at p q = jacobian 8 p (slopes q)
