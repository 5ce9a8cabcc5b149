-- `probe::good_corners` meets its contract: after the last turn all 24 numbers are judged. Assumes nothing.
use native.Mathlib.Omega.{arith}
use mathlib.Core.Path.{◌≡◌}
use Rattle.probe.specs.Check.{good_corners}
use Rattle.probe.proofs.good_corners.Goals as goal

pub returns : goal.returns
unfolding good_corners
returns c =
    let done : c.loop-x.x-index ≡ 24 = omega (arith, c.loop-x-test.false, c.loop-x.auto.x-index-end) in
    cc
