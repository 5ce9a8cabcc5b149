-- `volume_report::GridMesh::report` meets its contract: the volumes are written, and then added and searched. Assumes nothing.
use Prim.Native.Nat.{◌/◌}
use native.Mathlib.Omega.{arith}
use mathlib.Core.Path.{◌∙◌}
use lib.ListN.{length}
use lib.Seq.{length-take-le}
use mir.Syntax.{w64}
use mir.Facts.{to_z-of_z}
use Rattle.volume_report.proofs.Meshes.{no_room, small, first_within, mesh_reported}
use Rattle.volume_report.proofs.GridMesh.report.Goals as goal

pub slice_bounds-volumes-end : goal.slice_bounds-volumes-end
slice_bounds-volumes-end c = c.if-volumes-count.false

pub returns-then-volumes-count : goal.returns-then-volumes-count
returns-then-volumes-count c =
    let mesh = c.args.self.now in
    let said = no_room mesh.numbers.now mesh.cells.now _ c.args.volumes.now c.if-volumes-count.true in
    record { answer = said.told; output = said.output }

pub total-requires : goal.total-requires
total-requires c =
    let mesh = c.args.self.now in
    let all = length-take-le (length mesh.cells.now / 8) c.args.volumes.now c.if-volumes-count.false in
    (small mesh.numbers.now mesh.cells.now _ _ (rw all at c.put_volumes.ensures) mesh.on_grid.small, omega (arith, mesh.few))

pub overflow_cast-result-2 : goal.overflow_cast-result-2
overflow_cast-result-2 c =
    let mesh = c.args.self.now in
    let all = length-take-le (length mesh.cells.now / 8) c.args.volumes.now c.if-volumes-count.false in
    let few = first_within mesh.numbers.now mesh.cells.now _ _ (rw all at c.put_volumes.ensures) _ c.first_not_above.ensures in
    omega (arith, few, mesh.few)

pub returns : goal.returns
returns c =
    let mesh = c.args.self.now in
    let all = length-take-le (length mesh.cells.now / 8) c.args.volumes.now c.if-volumes-count.false in
    let said = mesh_reported mesh.numbers.now mesh.cells.now _ _ (rw all at c.put_volumes.ensures) c.args.volumes.now _ _ c.if-volumes-count.false
    (to_z-of_z {w = w64} (record { sfits = c.total.type_inv }) ∙ c.total.ensures) c.first_not_above.ensures in
    record { answer = said.told; output = said.output }
