-- The image of a place of the prism, and its Jacobian. A place is three floats; corners are 18, three a corner. Definitions only.
use Rattle.std.specs.Prelude.{List, Float}
use Rattle.cell.specs.Image.{image, jacobian}
use Rattle.prism_shape.specs.Shape.{shape, slopes}

-- the image of the place q, and its Jacobian, row by row
unfoldable pub image_at : List Float → List Float → List Float
image_at p q = image 6 (shape q) p

unfoldable pub jacobian_at : List Float → List Float → List Float
jacobian_at p q = jacobian 6 p (slopes q)
