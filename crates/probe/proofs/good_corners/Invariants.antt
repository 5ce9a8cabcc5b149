-- `probe::good_corners` meets its contract: before each turn the numbers that stand before are judged. Assumes nothing.
use Prim.Native.Nat.{ℕ}
use mathlib.Core.Path.{◌≡◌}
use Rattle.numbers.specs.Rule.{all}
use Rattle.binary64.specs.Binary64.{◌!◌}
use Rattle.probe.specs.Check.{good_corner}
use Rattle.probe.proofs.good_corners.Given as goal

abbrev pub invariant-loop-x : goal.invariant-loop-x
invariant-loop-x l = l.good ≡ all l.x-index (λ (k : ℕ). good_corner (l.p ! k))
