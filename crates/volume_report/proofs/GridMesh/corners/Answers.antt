-- `volume_report::GridMesh::corners` meets its contract: the first k corners are read. Assumes nothing.
use native.Mathlib.Omega.{arith}
use Rattle.numbers.proofs.Stored.{stores_more}
use Rattle.volume_report.proofs.Cells.{corner_read}
use Rattle.volume_report.proofs.GridMesh.corners.Goals as goal

pub loop-k-preserved : goal.loop-k-preserved
loop-k-preserved c =
    let mesh = c.args.self.now in
    stores_more _ c.loop-k.invariant (omega arith) (omega arith)
    (corner_read mesh.numbers.now mesh.cells.now c.args.c c.args.i mesh.on_grid.small c.loop-k.k c.loop-k-test.true)
