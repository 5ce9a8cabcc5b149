-- `faults::first_fault` meets its contract: the cells before the turn's have no fault. Assumes nothing.
use mathlib.Core.Path.{◌≡◌}
use Rattle.faults.specs.Faults.{first_to}
use Rattle.faults.proofs.first_fault.Given as goal

abbrev pub invariant-loop-cell : goal.invariant-loop-cell
invariant-loop-cell l = first_to l.n 8 l.fn.cells l.cell-index ≡ 0
