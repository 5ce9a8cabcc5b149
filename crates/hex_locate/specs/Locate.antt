-- Where the origin lies in a hexahedron of 24 floats. Definitions only.
use Rattle.std.specs.Prelude.{Bool, ◌&&◌, List, [], ◌∷◌, Float}
use Rattle.std.specs.Float.Ieee.{le, neg}
use Rattle.binary64.specs.Binary64.{◌!◌, f0, f1}
use Rattle.answer.specs.Answer.{Answer}
use Rattle.cell.specs.Newton.{step_from, locate}
use Rattle.hex_image.specs.Image.{image_at, jacobian_at}

-- one Newton step from the place q
unfoldable pub step : List Float → List Float → Answer (List Float)
step p q = step_from q (image_at p q) (jacobian_at p q)

-- "Newton starts at (0,0,0) for the hex"
abbrev pub start : List Float
start = f0 ∷ f0 ∷ f0 ∷ []

-- x in [-1,1]; a NaN is not
abbrev pub within : Float → Bool
within x = le (neg f1) x && le x f1

abbrev pub inside : List Float → Bool
inside q = within (q ! 0) && within (q ! 1) && within (q ! 2)

unfoldable pub located : List Float → Answer (List Float)
located p = locate (step p) start inside
