-- The shape values of the cube and their slopes. A place is three numbers. Definitions and claims only.
use Rattle.std.specs.Prelude.{ℕ, Bool, cond, List, [], ◌∷◌, Float, pos}
use Rattle.numbers.specs.Rule.{tabulate, without}
use Rattle.numbers.specs.Arithmetic.{Arithmetic}
use Rattle.integers.specs.Integers.{integers}
use Rattle.integers.specs.Slopes.{SlopesOf}
use Rattle.binary64.specs.Binary64.{◌⊗◌, ◌⊘◌, ◌!◌, f1, f2, floats}
use Rattle.cell.specs.Shape.{values_by, slopes_by, OneAtItsCorner}
use Rattle.hexahedron.specs.Cube.{upper, hex_sign}

-- one eighth, worked out as the source does
abbrev pub one8 : Float
one8 = f1 ⊘ (f2 ⊗ f2 ⊗ f2)

abbrev pub axes : List ℕ
axes = 0 ∷ 1 ∷ 2 ∷ []

-- The formulas, one text for every arithmetic: in floats it is what the code computes, in whole numbers what the last claim is about.
module _ {A : Type 0} (a : Arithmetic A) where
  open a use {one, neg, ◌⊕◌, ◌⊖◌, ◌⊗◌, ◌!◌}

  infixl 75 ◌⊕◌
  infixl 75 ◌⊖◌
  infixl 80 ◌⊗◌
  infixl 90 ◌!◌
  -- one plus or minus a coordinate, by the corner's sign on its axis
  abbrev pub side_in : Bool → A → A
  side_in up r = cond up (one ⊕ r) (one ⊖ r)

  -- x times the sides of corner k along these axes, in their order
  abbrev pub times_sides : List A → ℕ → A → List ℕ → A
  times_sides q k x [] = x
  times_sides q k x (i ∷ is) = times_sides q k (x ⊗ side_in (upper k i) (q ! i)) is

  -- the shape value of corner k: one eighth times its three sides
  abbrev pub shape_in : A → List A → ℕ → A
  shape_in eighth q k = times_sides q k eighth axes

  -- its slope along axis j: one eighth with the corner's sign there, times the sides of the other two axes
  abbrev pub slope_in : A → List A → ℕ → ℕ → A
  slope_in eighth q k j = times_sides q k (cond (upper k j) eighth (neg eighth)) (without j axes)

abbrev pub side : Bool → Float → Float
side up r = side_in floats up r

-- the lower or the upper sides of the three axes
abbrev pub sides : Bool → List Float → List Float
sides up q = tabulate 3 (λ (i : ℕ). side up (q ! i))

abbrev pub shape_at : List Float → ℕ → Float
shape_at q k = shape_in floats one8 q k

abbrev pub shape : List Float → List Float
shape q = values_by 8 shape_at q

abbrev pub slopes : List Float → List Float
slopes q = slopes_by 8 (slope_in floats one8) q

abbrev pub CornersOfTheShape : Type 0
CornersOfTheShape = OneAtItsCorner 8 shape hex_sign

-- In whole numbers, where the eighth is counted as one, the slopes are those of the shape values.
abbrev pub SlopesOfTheShape : Type 0
SlopesOfTheShape = SlopesOf 8 (shape_in integers (pos 1)) (slope_in integers (pos 1))
