-- The prism: a triangle times a segment. Its corners, and the table of its edges. Definitions and claims only.
use Rattle.std.specs.Prelude.{ℕ, ◌/◌, ◌%◌, Bool, List, [], ◌∷◌, eqb}
use Rattle.std.specs.Float.Ieee.{unlike}
use Rattle.cell.specs.Edges.{EdgeTable}

-- corner k stands at corner k % 3 of the triangle, on level k / 3 of the segment: 0, 1, 2 below and 3, 4, 5 above them
abbrev pub column : ℕ → ℕ
column k = k % 3

abbrev pub level : ℕ → ℕ
level k = k / 3

-- `EDGE2NODE`: the bottom triangle, the top triangle, then upward
abbrev pub edges : List (List ℕ)
edges =
    (0 ∷ 1 ∷ []) ∷ (1 ∷ 2 ∷ []) ∷ (2 ∷ 0 ∷ [])
    ∷ (3 ∷ 4 ∷ []) ∷ (4 ∷ 5 ∷ []) ∷ (5 ∷ 3 ∷ [])
    ∷ (0 ∷ 3 ∷ []) ∷ (1 ∷ 4 ∷ []) ∷ (2 ∷ 5 ∷ []) ∷ []

-- Two corners are the ends of an edge where they differ in exactly one of the two: another corner of the triangle on the same level, or the
-- same corner on the other level.
abbrev pub joined : ℕ → ℕ → Bool
joined a b = unlike (eqb (column a) (column b)) (eqb (level a) (level b))

-- `EDGE2NODE` lists every pair of corners that differ in one step, once.
abbrev pub EdgesOfThePrism : Type 0
EdgesOfThePrism = EdgeTable 6 joined edges
