-- Refining a mesh makes no metal: document 02, 5/12. Where the numbers of a refined mesh stand, and the law over all cells. Definitions and claims only.
use Rattle.std.specs.Prelude.{ℕ, ◌+◌, ◌*◌, ◌-◌, ◌<◌, ◌≡◌, cond, List, [], ltb, ℤ, pos, ◌*ℤ◌, length, get_or}
use Rattle.numbers.specs.Rule.{tabulate}
use Rattle.answer.specs.Answer.{answered}
use Rattle.integers.specs.Sums.{sum_to}
use Rattle.exact_volume.specs.Volume.{volume216}
use Rattle.metal.specs.Metal.{eight_middle}
use Rattle.faults.specs.Faults.{node}
use Rattle.hxm.specs.Format.{node_words, Mesh, mesh_of}
use Rattle.volume_report.specs.Report.{Report, grid_numbers, report_of}
use Rattle.numbering.specs.Refinement.{Thing, edge, face, centre, cell_count, things_of, given, number}
use Rattle.refine.specs.Refine.{refined, all_children}

-- the node that is corner k of cell c: this room reads a cell here and nowhere else
abbrev pub corner_node : List ℕ → ℕ → ℕ → ℕ
corner_node cells c k = node 8 cells c k

-- the nodes in whose middle a thing stands: an edge's two, a face's four, and for the centre of cell c its eight
abbrev pub nodes_of : List ℕ → Thing → List ℕ
nodes_of cells (edge ps) = ps
nodes_of cells (face ps) = ps
nodes_of cells (centre c) = tabulate 8 (corner_node cells c)

-- On one axis, where x is the coordinate of each node below n.
module _ (x : ℕ → ℤ) (n : ℕ) (cells : List ℕ) where
  -- eight times the coordinate of number k: a node's own below n, and from n up the middle of what got the number, which is the thing at place k - n
  abbrev pub stands_at : ℕ → ℤ
  stands_at k = cond (ltb k n) (pos 8 *ℤ x k) (eight_middle x (nodes_of cells (get_or (given cells) (k - n) (edge []))))

  -- that of corner k of child i of cell c, whose number a refinement writes at 64 c + 8 i + k
  abbrev pub child_stands : ℕ → ℕ → ℕ → ℤ
  child_stands c i k = stands_at (get_or (all_children n cells) (64 * c + 8 * i + k) 0)

-- On three axes: what all children and all cells hold.
module _ (x y z : ℕ → ℤ) where
  abbrev pub children_hold : ℕ → List ℕ → ℤ
  children_hold n cells =
      sum_to (cell_count cells) (λ (c : ℕ).
      sum_to 8 (λ (i : ℕ). volume216 (child_stands x n cells c i) (child_stands y n cells c i) (child_stands z n cells c i)))

  abbrev pub cells_hold : List ℕ → ℤ
  cells_hold cells =
      sum_to (cell_count cells) (λ (c : ℕ).
      volume216 (λ (k : ℕ). x (corner_node cells c k)) (λ (k : ℕ). y (corner_node cells c k)) (λ (k : ℕ). z (corner_node cells c k)))

-- An edge, a face or a centre stands in the middle of its own nodes, whichever cell asks, so that a shared middle has one place: thing j of cell c, of any list
-- of cells, refused ones too.
abbrev pub OnePlaceEach : Type 0
OnePlaceEach =
    (x : ℕ → ℤ) (n : ℕ) (cells : List ℕ) (c j : ℕ) → c < cell_count cells → j < length (things_of cells c)
    → stands_at x n cells (number n cells (get_or (things_of cells c) j (edge []))) ≡ eight_middle x (nodes_of cells (get_or (things_of cells c) j (edge [])))

-- "Over a mesh, the sum over all children stands to the sum over all parents likewise."
abbrev pub MeshKeepsTheMetal : Type 0
MeshKeepsTheMetal =
    (x y z : ℕ → ℤ) (n : ℕ) (cells : List ℕ) (room free : ℕ) → refined n cells room ≡ answered free
    → children_hold x y z n cells ≡ pos 512 *ℤ cells_hold x y z cells

-- the coordinate of node k on axis i, of the numbers of a file's nodes
abbrev pub coordinate : List ℤ → ℕ → ℕ → ℤ
coordinate numbers i k = get_or numbers (node_words * k + i) (pos 0)

-- Of a mesh file: what its cells hold is the total of its report, and the children hold 512 times that total.
pub record ReportKeepsTheMetal (m : Mesh) (numbers : List ℤ) (r : Report) : Type 0 where
  pub cells : cells_hold (coordinate numbers 0) (coordinate numbers 1) (coordinate numbers 2) m.corners ≡ r.total
  pub children : (room free : ℕ) → refined m.nodes m.corners room ≡ answered free
      → children_hold (coordinate numbers 0) (coordinate numbers 1) (coordinate numbers 2) m.nodes m.corners ≡ pos 512 *ℤ r.total

abbrev pub ReportsKeepTheMetal : Type 0
ReportsKeepTheMetal =
    (s : List ℕ) (m : Mesh) (numbers : List ℤ) (r : Report) → mesh_of s ≡ answered m → grid_numbers m.coords ≡ answered numbers → report_of s ≡ answered r
    → ReportKeepsTheMetal m numbers r
