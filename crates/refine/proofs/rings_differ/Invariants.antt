-- `refine::rings_differ` meets its contract: the faces passed have the rings that are kept. Assumes nothing.
use Prim.Native.Nat.{ℕ}
use mathlib.Core.Path.{◌≡◌}
use mathlib.Core.Bool.{true}
use lib.Dec.{eqb}
use lib.ListN.{get_or}
use Rattle.numbers.specs.Rule.{all}
use Rattle.refine.specs.Search.{by_number}
use Rattle.refine.proofs.rings_differ.Given as goal

abbrev pub invariant-loop-j : goal.invariant-loop-j
invariant-loop-j l = all l.j (λ (i : ℕ). eqb (by_number l.first l.faces l.kept i) (get_or l.rings i 0)) ≡ true
