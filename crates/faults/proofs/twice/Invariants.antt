-- `faults::twice` meets its contract: before turn j the nodes below j are looked at. Assumes nothing.
use mathlib.Core.Path.{◌≡◌}
use mathlib.Core.Bool.{not}
use Rattle.faults.specs.Faults.{names, different}
use Rattle.faults.proofs.twice.Given as goal

abbrev pub invariant-loop-j : goal.invariant-loop-j
invariant-loop-j l = l.twice ≡ not (different l.j (names l.cell))
