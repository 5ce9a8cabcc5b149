-- `volume_report::GridMesh::put_volumes` meets its contract: the volumes of the first c cells are written. Assumes nothing.
use Prim.Native.Nat.{ℕ}
use lib.ListN.{length}
use Rattle.numbers.proofs.Stored.{Stores}
use Rattle.volume_report.specs.Report.{cell_at, cell_volume}
use Rattle.volume_report.proofs.GridMesh.put_volumes.Given as goal

abbrev pub invariant-loop-c : goal.invariant-loop-c
invariant-loop-c l = Stores (λ (k : ℕ). cell_volume l.self.numbers.now (cell_at l.self.cells.now k)) (length l.initial.out) l.initial.out l.out l.c
