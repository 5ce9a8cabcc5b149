-- `refine::Mesh::number_cells` meets its contract: before each cell the lists hold the numbers of the cells passed. Assumes nothing.
use Prim.Native.Nat.{ℕ, ◌*◌, ◌<◌, min}
use native.Mathlib.Omega.{arith}
use mathlib.Core.Path.{◌≡◌, sym, ap}
use native.Mathlib.Nat.{add-zero}
use lib.ListN.{replicate}
use Rattle.numbers.specs.FirstMet.{meet}
use Rattle.faults.proofs.Faults.{faultless_is_sound}
use Rattle.numbering.specs.Refinement.{cell_count, chain, given_by}
use Rattle.keys.specs.Keys.{edge_key}
use Rattle.refine.proofs.Cell.{stands_first, cell_more}
use Rattle.refine.proofs.Search.{keys_agree}
use Rattle.refine.proofs.Mesh.number_cells.Goals as goal

pub loop-cell-init : goal.loop-cell-init
unfolding chain meet
loop-cell-init c = (stands_first _ _ _ _ _, sym (add-zero _), omega arith)

pub loop-cell-preserved : goal.loop-cell-preserved
loop-cell-preserved c =
    let mesh = c.args.self.now in
    let cells = mesh.cells.now in
    let cell = c.loop-cell.cell in
    let inv = c.loop-cell.invariant in
    let sound = faultless_is_sound.sound mesh.n 8 cells mesh.faultless in
    let most = mesh.few_cells in
    let all : min (cell_count cells) 128 ≡ cell_count cells = omega arith in
    let edge_keyed = keys_agree _ (replicate 1536 0) _ (12 * cell_count cells) (edge_key cells) (ap (λ (m : ℕ). 12 * m) all) c.edge_keys_into.ensures in
    let below : cell < cell_count cells = c.loop-cell-test.true in
    let numbers = c.loop-cell.numbers in
    let more = cell_more mesh.n mesh.few_nodes cells sound cell below numbers.edges numbers.faces numbers.centers c.loop-cell.free inv.0 inv.1
    _ _ _ _ _ _ edge_keyed c.requires (omega arith) (omega arith) (omega arith) (omega arith) (omega arith)
    c.number-free.ensures.numbers c.number-free.ensures.next c.number-free-in-loop-cell.ensures.numbers c.number-free-in-loop-cell.ensures.next in (
      record { of_edges = more.0.of_edges; of_faces = more.0.of_faces; of_centres = more.0.of_centres },
      more.1,
      omega (arith, c.number-free.ensures.few, c.number-free-in-loop-cell.ensures.few, inv.2),
    )

pub returns-clause-free : goal.returns-clause-free
unfolding given_by
returns-clause-free c = let done : c.loop-cell.cell ≡ cell_count c.args.self.now.cells.now = omega arith in rw done at c.loop-cell.invariant.1
