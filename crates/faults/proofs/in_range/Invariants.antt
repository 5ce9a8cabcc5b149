-- `faults::in_range` meets its contract: the nodes before the turn's are looked at. Assumes nothing.
use mathlib.Core.Path.{◌≡◌}
use Rattle.faults.specs.Faults.{names, in_range}
use Rattle.faults.proofs.in_range.Given as goal

abbrev pub invariant-loop-x : goal.invariant-loop-x
invariant-loop-x l = l.ranged ≡ in_range l.n l.x-index (names l.cell)
