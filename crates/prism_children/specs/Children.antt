-- The children of a prism, by the places of their corners. Definitions and claims only.
use Rattle.std.specs.Prelude.{ℕ, suc, ◌+◌, ◌-◌, ◌/◌, ◌%◌, ◌<◌, ◌≡◌, cond, List, [], ◌∷◌, ◌++◌, eqb, ltb, get_or}
use Rattle.numbers.specs.Rule.{tabulate, grid, count}
use Rattle.cell.specs.Middles.{same_middle, node_at, nowhere}
use Rattle.prism.specs.Wedge.{column, level, edges}

-- where corner k stands on axis i: the triangle's origin is its corner 0, and corners 1 and 2 are one along axes 0 and 1
abbrev pub at : ℕ → ℕ → ℕ
at k i = cond (eqb i 2) (level k) (cond (eqb (column k) (suc i)) 1 0)

-- edge e of the lower triangle with its neighbour above: the quadrilateral face over it
abbrev pub ends : ℕ → List ℕ
ends e = get_or edges e []

abbrev pub quad : ℕ → List ℕ
quad f = ends f ++ ends (f + 3)

-- the corners in whose middle each of the 18 nodes stands: corners, edges, quadrilateral faces
abbrev pub nodes : List (List ℕ)
nodes = tabulate 6 (λ (k : ℕ). k ∷ []) ++ edges ++ tabulate 3 quad

-- the numbers of these
abbrev pub number : List ℕ → List ℕ → List ℕ → ℕ → ℕ
number corner edge face n =
    cond (ltb n 6) (get_or corner n 0)
    (cond (ltb n 15) (get_or edge (n - 6) 0)
    (cond (ltb n 18) (get_or face (n - 15) 0) nowhere))

-- "Prism children 0, 1, 2 and 4, 5, 6 belong to corners 0 to 5: corner k names the middle between that corner and corner k."
abbrev pub of_corner : ℕ → ℕ → List ℕ
of_corner i k = cond (ltb i 4) i (i - 1) ∷ k ∷ []

-- "Children 3 and 7 are the lower and upper half of the column over the middles of edges 0, 1, 2": a corner of the column stands over edge
-- e at height 0, 1 or 2 halves
abbrev pub over_edge : ℕ → ℕ → List ℕ
over_edge e h = cond (eqb h 0) (ends e) (cond (eqb h 1) (quad e) (ends (e + 3)))

-- the corners in whose middle corner k of child i stands
abbrev pub child_corner : ℕ → ℕ → List ℕ
child_corner i k = cond (eqb (i % 4) 3) (over_edge (column k) (level k + i / 4)) (of_corner i k)

-- six numbers a child
abbrev pub children : List ℕ → List ℕ → List ℕ → List ℕ
children corner edge face = grid 8 6 (λ (i k : ℕ). number corner edge face (node_at at nodes (child_corner i k)))

-- The 18 nodes stand at different places.
abbrev pub NodesApart : Type 0
NodesApart = (n : ℕ) → n < 18 → count 18 (λ (m : ℕ). same_middle at (get_or nodes m []) (get_or nodes n [])) ≡ 1

-- Every corner of a child is one of the 18 nodes: `node_at` answers 18 where none of them stands.
abbrev pub CornersAreNodes : Type 0
CornersAreNodes = (i k : ℕ) → i < 8 → k < 6 → node_at at nodes (child_corner i k) < 18
