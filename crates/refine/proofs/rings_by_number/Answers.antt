-- `refine::rings_by_number` meets its contract: of the faces passed the last of each number is kept. Assumes nothing.
use native.Mathlib.Omega.{arith}
use mathlib.Core.Path.{◌≡◌}
use lib.ListN.{length, length-set}
use Rattle.refine.proofs.Twists.{rings_more}
use Rattle.refine.proofs.rings_by_number.Goals as goal

pub loop-j-preserved : goal.loop-j-preserved
loop-j-preserved c =
    let args = c.args in
    let inv = c.loop-j.invariant in
    (simp length-set inv.0, rings_more args.first args.faces.now args.rings.now c.loop-j.last c.loop-j.j (λ i below. c.requires.1 i (omega arith)) inv.0 inv.1)

pub returns : goal.returns
returns c =
    let done : c.loop-j.j ≡ length c.args.faces.now = omega arith in
    rw done at c.loop-j.invariant.1
