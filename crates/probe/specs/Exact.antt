-- The exact image of a place in a hexahedron, in whole numbers, and how near the origin it is: what the check's float image stands for.
-- Lengths are counted in units of 2 ^ -1074, of which every finite float is a whole number. Definitions and claims only.
use Rattle.std.specs.Prelude.{ℕ, ◌+◌, ◌*◌, ◌^◌, ◌≤◌, ◌<◌, max, ◌≡◌, Bool, cond, List, ℤ, pos, nat_abs, ◌+ℤ◌, ◌-ℤ◌, ◌*ℤ◌, Float}
use Rattle.numbers.specs.Rule.{fold_to}
use Rattle.binary64.specs.Binary64.{◌!◌}
use Rattle.binary64.specs.Exact.{one, size, units}
use Rattle.cell.specs.Image.{corner}
use Rattle.hexahedron.specs.Cube.{upper}

-- one plus or minus a coordinate, by the corner's sign on its axis
abbrev pub exact_side : Bool → Float → ℤ
exact_side up r = cond up (pos one +ℤ units r) (pos one -ℤ units r)

-- the weight of corner k at the place q: the product of its three sides, over `whole`
abbrev pub exact_weight : List Float → ℕ → ℤ
exact_weight q k = exact_side (upper k 0) (q ! 0) *ℤ exact_side (upper k 1) (q ! 1) *ℤ exact_side (upper k 2) (q ! 2)

-- the two sides of an axis are two together, on each of three axes
abbrev pub whole : ℕ
whole = (2 * one) ^ 3

-- So the eight weights add up to `whole`, at each place of the cube.
abbrev pub WeightsAddUp : Type 0
WeightsAddUp = (q : List Float) → ((i : ℕ) → i < 3 → size (q ! i) ≤ one) → fold_to ◌+ℤ◌ (pos 0) 8 (exact_weight q) ≡ pos whole

-- axis i of the image of q: the sum of weight times corner, over `whole`
unfoldable pub exact_image : List Float → List Float → ℕ → ℤ
exact_image p q i = fold_to ◌+ℤ◌ (pos 0) 8 (λ (k : ℕ). exact_weight q k *ℤ units (corner p k i))

-- M: the largest corner size on axis i
unfoldable pub largest : List Float → ℕ → ℕ
largest p i = fold_to max 0 8 (λ (k : ℕ). size (corner p k i))

-- How often the float image is rounded, by one part in 2 ^ 53 of at most M: five times for a shape value (three sides and two products, since an eighth of
-- a side is exact), once for its product with the corner, and seven times for the sum; one part more is for what these make together.
abbrev pub roundings : ℕ
roundings = 14

-- The distance of the exact image from the origin on axis i, the tolerance T, and e = 14 M / 2 ^ 53: each in units, over whole * 2 ^ 53.
abbrev pub distance : List Float → List Float → ℕ → ℕ
distance p q i = nat_abs (exact_image p q i) * 2 ^ 53

abbrev pub tolerated : Float → ℕ
tolerated t = size t * whole * 2 ^ 53

abbrev pub margin : List Float → ℕ → ℕ
margin p i = roundings * largest p i * whole

-- Demand 3: what an accepted place owes, "the exact image is at most T + e from the origin on every axis",
abbrev pub AtMostTPlusE : List Float → List Float → Float → Type 0
AtMostTPlusE p q t = (i : ℕ) → i < 3 → distance p q i ≤ tolerated t + margin p i

-- and what makes a place accepted: "exact image at most T - e on every axis"
abbrev pub AtMostTMinusE : List Float → List Float → Float → Type 0
AtMostTMinusE p q t = (i : ℕ) → i < 3 → distance p q i + margin p i ≤ tolerated t
