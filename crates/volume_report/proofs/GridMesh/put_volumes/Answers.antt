-- `volume_report::GridMesh::put_volumes` meets its contract: the volumes of the first c cells are written. Assumes nothing.
use native.Mathlib.Omega.{arith}
use mathlib.Core.Path.{◌∙◌, ap}
use mathlib.Core.List.{List, ◌++◌, append-nil}
use lib.IntN.{ℤ}
use lib.ListN.{length}
use lib.Seq.{drop-length}
use mir.Syntax.{w64}
use mir.Facts.{to_z-of_z}
use Rattle.numbers.proofs.Stored.{stores_more, stores_all}
use Rattle.volume_report.specs.Report.{volumes_of}
use Rattle.volume_report.proofs.Cells.{volumes_by_cell}
use Rattle.volume_report.proofs.GridMesh.put_volumes.Goals as goal

pub loop-c-preserved : goal.loop-c-preserved
loop-c-preserved c =
    stores_more _ c.loop-c.invariant (omega arith) (omega arith)
    (to_z-of_z {w = w64} (record { sfits = c.cell_volume.type_inv }) ∙ c.cell_volume.ensures)

pub returns : goal.returns
returns c =
    let mesh = c.args.self.now in
    let old = c.args.out.now in
    let volumes = volumes_of mesh.numbers.now mesh.cells.now (length old) in
    stores_all c.loop-c.invariant (omega arith)
    ∙ rw (← volumes_by_cell mesh.numbers.now mesh.cells.now (length old)) (ap (λ (l : List ℤ). volumes ++ l) (drop-length old) ∙ append-nil volumes)
