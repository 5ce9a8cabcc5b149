-- `refine::find` meets its contract: the key is none of those that the loops have passed. Assumes nothing.
use Prim.Native.Nat.{◌+◌, ◌*◌, ◌-◌, ◌≤◌, ◌<◌}
use Rattle.refine.proofs.Places.{Missing}
use Rattle.refine.proofs.find.Given as goal

abbrev pub invariant-loop-i : goal.invariant-loop-i
invariant-loop-i l = (l.c < l.cell) × (l.width * l.c + l.width ≤ l.width * l.cell) × (l.i ≤ l.width) × Missing l.keys (l.width * l.c + l.i) l.key

abbrev pub invariant-search : goal.invariant-search
invariant-search l = (l.c ≤ l.cell) × Missing l.keys (l.width * l.c) l.key

abbrev pub decreases-search : goal.decreases-search
decreases-search l = l.cell - l.c
