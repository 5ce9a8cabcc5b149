-- `hxm_write::write` meets its contract: what `judge` accepts is written, part behind part. Assumes nothing.
use native.Mathlib.Omega.{arith}
use mathlib.Core.List.{map-id}
use lib.ListN.{length}
use Rattle.hxm.proofs.Format.{length_file}
use Rattle.hxm_write.specs.Writes.{mesh_of_lists}
use Rattle.hxm_write.proofs.Ladder.{counted, left_by}
use Rattle.hxm_write.proofs.write.Goals as goal

pub put_head-head-requires : goal.put_head-head-requires
put_head-head-requires c =
    let file = counted (length c.args.out.now) c.args.nodes.now c.args.cells.now _ c.in_ok-length.ensures in
    omega (arith, file.fits, length_file (mesh_of_lists c.args.nodes.now c.args.cells.now))

pub returns-clause-output : goal.returns-clause-output
returns-clause-output c =
    let file = counted (length c.args.out.now) c.args.nodes.now c.args.cells.now _ c.in_ok-length.ensures in
    left_by file c.put_head-head.ensures (rw map-id at c.put_all-behind.ensures) (rw map-id at c.put_all.ensures)
