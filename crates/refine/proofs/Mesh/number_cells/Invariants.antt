-- `refine::Mesh::number_cells` meets its contract: before each cell the lists hold the numbers of the cells passed. Assumes nothing.
use Prim.Native.Nat.{◌+◌, ◌*◌, ◌≤◌}
use mathlib.Core.Path.{◌≡◌}
use Rattle.numbering.specs.Refinement.{same_nodes, things_to}
use Rattle.numbering.proofs.Steps.{next_after}
use Rattle.refine.specs.Search.{Standing}
use Rattle.refine.proofs.Mesh.number_cells.Given as goal

abbrev pub invariant-loop-cell : goal.invariant-loop-cell
invariant-loop-cell l =
    Standing l.self.n l.self.cells.now l.numbers.edges l.numbers.faces l.numbers.centers l.cell
    × (l.free ≡ next_after same_nodes l.self.n (things_to l.self.cells.now l.cell))
    × (l.free ≤ l.self.n + 19 * l.cell)
