-- An interface between two cells stays one interface after the cut. Definitions and claims only.
use Rattle.std.specs.Prelude.{ℕ, ◌+◌, ◌*◌, ◌<◌, ◌≡◌, Bool, List, get_or}
use Rattle.faults.specs.Faults.{node}
use Rattle.hexahedron.specs.Cube.{ring}
use Rattle.numbering.specs.Refinement.{turned, child_numbers}

-- a face is cut into faces of the children at the four nodes of its ring: which number node k of the child face at node j has, in face f of cell c
abbrev pub child_face : ℕ → List ℕ → ℕ → ℕ → ℕ → ℕ → ℕ
child_face n cells c f j k = get_or (child_numbers n cells c) (8 * ring f j + ring f k) 0

-- Where face f of cell c and face g of cell d go round the same four nodes in the same ring, either way, their child faces name the same numbers.
abbrev pub OneInterface : Type 0
OneInterface =
    (n : ℕ) (cells : List ℕ) (c d f g : ℕ) (back : Bool) (s : ℕ) → f < 6 → g < 6
    → ((j : ℕ) → j < 4 → node 8 cells c (ring f j) ≡ node 8 cells d (ring g (turned back s j)))
    → (j k : ℕ) → j < 4 → k < 4 → child_face n cells c f j k ≡ child_face n cells d g (turned back s j) (turned back s k)
