-- The shape values of the prism and their slopes. A place is three numbers: r and s in the triangle, t along the segment. Definitions and claims only.
use Rattle.std.specs.Prelude.{ℕ, suc, cond, List, [], ◌∷◌, eqb, Float}
use Rattle.numbers.specs.Rule.{tabulate}
use Rattle.numbers.specs.Arithmetic.{Arithmetic}
use Rattle.integers.specs.Integers.{integers}
use Rattle.integers.specs.Slopes.{SlopesOf}
use Rattle.binary64.specs.Binary64.{f0, f1, floats}
use Rattle.cell.specs.Shape.{values_by, slopes_by, OneAtItsCorner}
use Rattle.prism.specs.Wedge.{column, level}

-- corner 0 of a triangle or of a segment is its origin, and corner c is one along axis c - 1
abbrev pub unit : ℕ → ℕ → Float
unit c i = cond (eqb c (suc i)) f1 f0

-- "The six prism corners (0,0,0), (1,0,0), (0,1,0), (0,0,1), (1,0,1), (0,1,1)"
abbrev pub places : List (List Float)
places = tabulate 6 (λ (k : ℕ). unit (column k) 0 ∷ unit (column k) 1 ∷ unit (level k) 0 ∷ [])

-- The formulas, one text for every arithmetic: in floats it is what the code computes, in whole numbers what the last claim is about.
module _ {A : Type 0} (a : Arithmetic A) where
  open a use {zero, one, neg, ◌⊕◌, ◌⊖◌, ◌⊗◌, ◌!◌}

  infixl 75 ◌⊕◌
  infixl 75 ◌⊖◌
  infixl 80 ◌⊗◌
  infixl 90 ◌!◌
  -- the weights of the three corners of the triangle, and of the two levels
  abbrev pub columns : List A → List A
  columns q = one ⊖ q ! 0 ⊖ q ! 1 ∷ q ! 0 ∷ q ! 1 ∷ []

  abbrev pub levels : List A → List A
  levels q = one ⊖ q ! 2 ∷ q ! 2 ∷ []

  -- Minus each weight, as the source writes it. Minus one plus the coordinates is no turned sign: where the weight is plus zero it is plus zero too, and
  -- not minus zero.
  abbrev pub minus_columns : List A → List A
  minus_columns q = neg one ⊕ q ! 0 ⊕ q ! 1 ∷ neg (q ! 0) ∷ neg (q ! 1) ∷ []

  abbrev pub minus_levels : List A → List A
  minus_levels q = neg one ⊕ q ! 2 ∷ neg (q ! 2) ∷ []

  -- the shape value of corner k: the weight of its corner of the triangle times that of its level
  abbrev pub shape_in : List A → ℕ → A
  shape_in q k = columns q ! column k ⊗ levels q ! level k

  -- Its slope along axis j of the triangle. A step of one there takes one off the weight of the triangle's corner 0, adds one to that of corner j + 1, and
  -- leaves the third: the shape value loses the weight of its level, gains it, or stays.
  abbrev pub slope_across : List A → ℕ → ℕ → A
  slope_across q k j =
      cond (eqb (column k) 0) (minus_levels q ! level k) (cond (eqb (column k) (suc j)) (levels q ! level k) zero)

  -- Its slope along t. A step of one takes one off the weight of the lower level and adds one to that of the upper: the shape value loses or gains the
  -- weight of its corner of the triangle.
  abbrev pub slope_upward : List A → ℕ → A
  slope_upward q k = cond (eqb (level k) 0) (minus_columns q ! column k) (columns q ! column k)

  -- its slope along axis j: axis 2 is t, 0 and 1 are the triangle's
  abbrev pub slope_in : List A → ℕ → ℕ → A
  slope_in q k j = cond (eqb j 2) (slope_upward q k) (slope_across q k j)

abbrev pub shape : List Float → List Float
shape q = values_by 6 (shape_in floats) q

abbrev pub slopes : List Float → List Float
slopes q = slopes_by 6 (slope_in floats) q

abbrev pub CornersOfTheShape : Type 0
CornersOfTheShape = OneAtItsCorner 6 shape places

-- In whole numbers the slopes are those of the shape values.
abbrev pub SlopesOfTheShape : Type 0
SlopesOfTheShape = SlopesOf 6 (shape_in integers) (slope_in integers)
