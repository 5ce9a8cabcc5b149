-- `refine::rings_by_number` meets its contract: of the faces passed the last of each number is kept. Assumes nothing.
use mathlib.Core.Path.{◌≡◌}
use lib.ListN.{length}
use Rattle.refine.specs.Search.{RingsByNumber}
use Rattle.refine.proofs.rings_by_number.Given as goal

abbrev pub invariant-loop-j : goal.invariant-loop-j
invariant-loop-j l = (length l.last ≡ 2432) × RingsByNumber l.first l.faces l.rings l.j l.last
