-- The children of a hexahedron, by the places of their corners. Definitions and claims only.
use Rattle.std.specs.Prelude.{ℕ, ◌*◌, ◌-◌, ◌<◌, ◌≡◌, Bool, cond, List, [], ◌∷◌, ◌++◌, eqb, ltb, get_or, length}
use Rattle.numbers.specs.Rule.{tabulate, grid, count, all}
use Rattle.cell.specs.Middles.{sum_on, node_at, nowhere}
use Rattle.hexahedron.specs.Cube.{upper, edges, ring}

-- where corner k stands on axis i: at its lower or its upper end
abbrev pub end : ℕ → ℕ → ℕ
end k i = cond (upper k i) 1 0

-- "a corner, an edge middle, a face middle or the centre": the corners in whose middle each of the 27 nodes stands
abbrev pub nodes : List (List ℕ)
nodes = tabulate 8 (λ (k : ℕ). k ∷ []) ++ edges ++ tabulate 6 (λ (f : ℕ). tabulate 4 (ring f)) ++ (tabulate 8 (λ (k : ℕ). k) ∷ [])

-- the numbers of these: corners, edges, faces, centre
abbrev pub number : List ℕ → List ℕ → List ℕ → ℕ → ℕ → ℕ
number corner edge quad center n =
    cond (ltb n 8) (get_or corner n 0)
    (cond (ltb n 20) (get_or edge (n - 8) 0)
    (cond (ltb n 26) (get_or quad (n - 20) 0)
    (cond (eqb n 26) center nowhere)))

-- "Child i, corner k of a hex names the node at (sign i + sign k) / 2 on each axis": in the middle of corners i and k
abbrev pub child_node : ℕ → ℕ → ℕ
child_node i k = node_at end nodes (i ∷ k ∷ [])

-- eight numbers a child
abbrev pub children : List ℕ → List ℕ → List ℕ → ℕ → List ℕ
children corner edge quad center = grid 8 8 (λ (i k : ℕ). number corner edge quad center (child_node i k))

-- the middle of corners cs is so many halves along each axis
abbrev pub stands_at : List ℕ → List ℕ → Bool
stands_at halves cs = all 3 (λ (i : ℕ). eqb (2 * sum_on end cs i) (get_or halves i 0 * length cs))

-- The 27 nodes stand at the 27 places of which each axis is at its lower end, its middle or its upper end, one at each.
abbrev pub NodesOfTheGrid : Type 0
NodesOfTheGrid =
    (x y z : ℕ) → x < 3 → y < 3 → z < 3 → count 27 (λ (n : ℕ). stands_at (x ∷ y ∷ z ∷ []) (get_or nodes n [])) ≡ 1

-- Every corner of a child is one of the 27 nodes: `node_at` answers 27 where none of them stands.
abbrev pub CornersAreNodes : Type 0
CornersAreNodes = (i k : ℕ) → i < 8 → k < 8 → child_node i k < 27
