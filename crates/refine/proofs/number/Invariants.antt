-- `refine::number` meets its contract: a turn stores the number of one key more. Assumes nothing.
use Prim.Native.Nat.{◌+◌, ◌*◌, ◌≤◌}
use mathlib.Core.Path.{◌≡◌}
use lib.ListN.{length}
use Rattle.refine.specs.Search.{numbered, new_from}
use Rattle.refine.proofs.number.Given as goal

abbrev pub invariant-loop-i : goal.invariant-loop-i
invariant-loop-i l =
    (l.i ≤ l.width)
    × (length l.numbers ≡ length l.initial.numbers)
    × (l.next ≤ l.first + l.i)
    × (l.numbers ≡ numbered l.keys l.initial.numbers (l.width * l.cell) l.first l.i)
    × (l.next ≡ l.first + new_from l.keys (l.width * l.cell) l.i)
