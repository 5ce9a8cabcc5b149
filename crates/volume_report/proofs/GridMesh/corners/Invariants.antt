-- `volume_report::GridMesh::corners` meets its contract: the first k corners are read. Assumes nothing.
use Rattle.numbers.proofs.Stored.{Stores}
use Rattle.volume_report.specs.Report.{cell_at, corner_of}
use Rattle.volume_report.proofs.GridMesh.corners.Given as goal

abbrev pub invariant-loop-k : goal.invariant-loop-k
invariant-loop-k l = Stores (corner_of l.self.numbers.now (cell_at l.self.cells.now l.c) l.i) 8 l.initial.x l.x l.k
