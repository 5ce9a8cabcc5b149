-- `buffer::load_all` meets its contract: before turn i the first i numbers are read. Assumes nothing.
use Prim.Native.Nat.{ℕ, ◌+◌, ◌*◌}
use mathlib.Core.List.{map}
use lib.ListN.{length}
use Rattle.numbers.specs.Little.{number_at}
use Rattle.numbers.proofs.Stored.{Stores}
use Rattle.buffer.proofs.load_all.Given as goal

abbrev pub invariant-loop-i : goal.invariant-loop-i
invariant-loop-i g l =
    let w = g.T.Little.WIDTH in
    let value = g.T.Little.value in
    Stores (λ (k : ℕ). number_at l.bytes w (l.at + w * k)) (length l.initial.out) (map value l.initial.out) (map value l.out) l.i
