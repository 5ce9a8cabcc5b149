-- `faults::twice` meets its contract: before turn j the nodes below j are looked at. Assumes nothing.
use native.Mathlib.Omega.{arith}
use mathlib.Core.Path.{◌≡◌}
use Rattle.faults.proofs.twice.Goals as goal

pub returns : goal.returns
returns c =
    let done : c.loop-j.j ≡ 8 = omega arith in
    cc
