-- `hxm::fault_at` meets its contract: the cells before the turn's have no fault. Assumes nothing.
use mathlib.Core.Path.{◌≡◌}
use Prim.Native.Nat.{◌*◌}
use Rattle.numbers.specs.Little.{numbers_at}
use Rattle.faults.specs.Faults.{first_to}
use Rattle.hxm.proofs.fault_at.Given as goal

abbrev pub invariant-loop-c : goal.invariant-loop-c
invariant-loop-c l = first_to l.n 8 (numbers_at l.bytes 4 l.at (8 * l.count)) l.c ≡ 0
