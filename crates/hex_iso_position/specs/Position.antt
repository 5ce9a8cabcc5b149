-- Where the surface of value zero cuts the line between two corners of a cube. Definitions and claims only.
use Rattle.std.specs.Prelude.{ℕ, ◌≡◌, cond, List, [], map, ltb, Float, ℤ, neg_ℤ, ◌-ℤ◌, ◌*ℤ◌, get_or}
use Rattle.numbers.specs.Rule.{tabulate}
use Rattle.numbers.specs.Arithmetic.{Arithmetic}
use Rattle.integers.specs.Integers.{integers}
use Rattle.integers.specs.Fractions.{Fraction, whole, fractions, quotient}
use Rattle.binary64.specs.Binary64.{◌⊘◌, floats}
use Rattle.answer.specs.Answer.{Answer, answered, refused}
use Rattle.hexahedron.specs.Cube.{hex_sign}

-- `HEX_SIGN` at corner k
abbrev pub sign : ℕ → List Float
sign k = get_or hex_sign k []

-- The formulas, one text for every arithmetic: in floats it is what the code computes, in fractions of whole numbers what is claimed below.
module _ {A : Type 0} (a : Arithmetic A) where
  open a use {neg, ◌⊕◌, ◌⊖◌, ◌⊗◌, ◌!◌}

  infixl 75 ◌⊕◌
  infixl 75 ◌⊖◌
  infixl 80 ◌⊗◌
  infixl 90 ◌!◌
  -- axis i of the corner with this sign: "sign times half width, then plus centre, on each axis"
  abbrev pub node_in : List A → A → List A → ℕ → A
  node_in center half_width s i = s ! i ⊗ half_width ⊕ center ! i

  module _ (◌⊘◌ : A → A → A) where
    infixl 80 ◌⊘◌
    -- axis i of the place between the corners with signs s and t where a value that goes evenly from v to w is zero
    abbrev pub position_in : List A → A → List A → List A → A → A → ℕ → A
    position_in center half_width s t v w i =
        node_in center half_width s i ⊗ (w ⊘ (w ⊖ v)) ⊕ node_in center half_width t i ⊗ (neg v ⊘ (w ⊖ v))

abbrev pub node_on : List Float → Float → List Float → ℕ → Float
node_on center half_width s i = node_in floats center half_width s i

abbrev pub position_on : List Float → Float → List Float → List Float → Float → Float → ℕ → Float
position_on center half_width s t v w i = position_in floats ◌⊘◌ center half_width s t v w i

-- The value that goes evenly from v at p to w at q is zero at x, a fraction over the square of w - v: (x - p) (w - v) = (- v) (q - p), both times its bottom.
pub record ZeroAt (p q v w : ℤ) (x : Fraction ℤ) : Type 0 where
  pub bottom : x.bottom ≡ (w -ℤ v) *ℤ (w -ℤ v)
  pub evenly : (x.top -ℤ p *ℤ x.bottom) *ℤ (w -ℤ v) ≡ neg_ℤ v *ℤ (q -ℤ p) *ℤ x.bottom

-- So it is, in fractions of whole numbers, for the position between two corners.
abbrev pub ZeroAtThePosition : Type 0
ZeroAtThePosition =
    (center s t : List ℤ) (half_width v w : ℤ) (i : ℕ)
    → let n = whole integers in
    ZeroAt (node_in integers center half_width s i) (node_in integers center half_width t i) v w
    (position_in (fractions integers) (quotient integers) (map n center) (n half_width) (map n s) (map n t) (n v) (n w) i)

-- "Edge position: 9": "a node .. number out of range"
abbrev pub iso_position : List Float → Float → ℕ → ℕ → Float → Float → Answer (List Float)
iso_position center half_width a b v w =
    cond (ltb 7 a) (refused 9)
    (cond (ltb 7 b) (refused 9)
    (answered (tabulate 3 (position_on center half_width (sign a) (sign b) v w))))
