-- The children of a mesh's cells, from lists of their nodes and of the numbers that their edges, faces and centres have. No promise to a user cites these.
-- Definitions only.
use Rattle.std.specs.Prelude.{ℕ, ◌+◌, ◌*◌, ◌/◌, min, List, length, get_or}
use Rattle.numbers.specs.Rule.{tabulate}
use Rattle.hex_children.specs.Children.{children}
use Rattle.numbering.specs.Refinement.{cell_count, chain}

-- the w numbers of a cell in a list of w a cell
abbrev pub row : ℕ → List ℕ → ℕ → List ℕ
row w l c = tabulate w (λ (k : ℕ). get_or l (w * c + k) 0)

-- the children of the cell at place c
unfoldable pub children_of : List ℕ → List ℕ → List ℕ → List ℕ → ℕ → List ℕ
children_of cells edges faces centers c = children (row 8 cells c) (row 12 edges c) (row 6 faces c) (get_or centers c 0)

-- how many cells every list has, 8 nodes, 12 edges, 6 faces and a centre each, where there is room for 64 numbers each
unfoldable pub whole_cells : List ℕ → List ℕ → List ℕ → List ℕ → ℕ → ℕ
whole_cells cells edges faces centers room =
    min (min (cell_count cells) (min (min (length edges / 12) (length faces / 6)) (length centers))) (room / 64)

-- the children of all of them, "64 child numbers" a cell
abbrev pub children_by : List ℕ → List ℕ → List ℕ → List ℕ → ℕ → List ℕ
children_by cells edges faces centers room = chain (whole_cells cells edges faces centers room) (children_of cells edges faces centers)
