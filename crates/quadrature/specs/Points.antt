-- Points that the caller lends for a sum over a cell: a flat list, so many floats a point, the weight last. Definitions only.
use Rattle.std.specs.Prelude.{ℕ, ◌+◌, ◌*◌, ◌/◌, ◌%◌, Bool, not, ◌||◌, List, [], eqb, ltb, get_or, Float, length}
use Rattle.std.specs.Simd.{first_chunks}
use Rattle.binary64.specs.Binary64.{◌!◌}

-- how many points there are, of so many floats
abbrev pub point_count : ℕ → List Float → ℕ
point_count width points = length points / width

-- 8: "a list not whole (8, 2 or 3 numbers an item)"
abbrev pub not_whole : ℕ → List Float → Bool
not_whole width points = not (eqb (length points % width) 0)

-- 7: "quadrature points not 1 to 16 in a list"
abbrev pub too_few_or_many : ℕ → Bool
too_few_or_many count = ltb count 1 || ltb 16 count

abbrev pub not_one_to16 : ℕ → List Float → Bool
not_one_to16 width points = too_few_or_many (point_count width points)

-- a point of a line is two floats: its place, and its weight
abbrev pub place : List Float → ℕ → Float
place points k = points ! (2 * k)

abbrev pub weight : List Float → ℕ → Float
weight points k = points ! (2 * k + 1)

-- the list cut into its points
abbrev pub points_of : ℕ → List Float → List (List Float)
points_of width list = first_chunks width (point_count width list) list

abbrev pub point : List (List Float) → ℕ → List Float
point points k = get_or points k []
