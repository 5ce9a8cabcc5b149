-- `volume_report::GridMesh::cell_volume` meets its contract: the volume of the corners on three axes. Assumes nothing.
use mathlib.Core.Path.{◌∙◌}
use mir.Syntax.{w64}
use mir.Facts.{to_z-of_z}
use Rattle.volume_report.proofs.Cells.{cell_volume_is}
use Rattle.volume_report.proofs.GridMesh.cell_volume.Goals as goal

pub returns : goal.returns
returns c =
    let mesh = c.args.self.now in
    to_z-of_z {w = w64} (record { sfits = c.volume.type_inv }) ∙ c.volume.ensures
    ∙ cell_volume_is mesh.numbers.now mesh.cells.now c.args.c _ _ _ c.corners.ensures c.corners-2.ensures c.corners-3.ensures
