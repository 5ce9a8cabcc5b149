-- `faults::met_at` meets its contract: the nodes before the turn's are compared with node j. Assumes nothing.
use mathlib.Core.Path.{◌≡◌}
use mathlib.Core.Bool.{not}
use Rattle.numbers.specs.Rule.{all}
use Rattle.faults.specs.Faults.{names, differs}
use Rattle.faults.proofs.met_at.Given as goal

abbrev pub invariant-loop-x : goal.invariant-loop-x
invariant-loop-x l = l.met ≡ not (all l.x-index (differs (names l.fn.cell) l.fn.j))
