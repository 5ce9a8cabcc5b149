-- Where the origin lies in a prism of 18 floats. Definitions only.
use Rattle.std.specs.Prelude.{Bool, ◌&&◌, List, [], ◌∷◌, Float}
use Rattle.std.specs.Float.Ieee.{le}
use Rattle.binary64.specs.Binary64.{◌⊕◌, ◌⊘◌, ◌!◌, f0, f1}
use Rattle.answer.specs.Answer.{Answer}
use Rattle.cell.specs.Newton.{step_from, locate}
use Rattle.prism_image.specs.Image.{image_at, jacobian_at}

-- one Newton step from the place q
unfoldable pub step : List Float → List Float → Answer (List Float)
step p q = step_from q (image_at p q) (jacobian_at p q)

-- "(1/3,1/3,1/2) for the prism, each worked out as the source does"
abbrev pub third : Float
third = f1 ⊘ (f1 ⊕ f1 ⊕ f1)

abbrev pub half : Float
half = f1 ⊘ (f1 ⊕ f1)

abbrev pub start : List Float
start = third ∷ third ∷ half ∷ []

-- "The prism is inside when r >= 0, s >= 0, rounded r + s <= 1, and t in [0,1]."
abbrev pub inside : List Float → Bool
inside q = le f0 (q ! 0) && le f0 (q ! 1) && le (q ! 0 ⊕ q ! 1) f1 && le f0 (q ! 2) && le (q ! 2) f1

unfoldable pub located : List Float → Answer (List Float)
located p = locate (step p) start inside
