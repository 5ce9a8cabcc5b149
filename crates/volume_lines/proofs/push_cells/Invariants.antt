-- `volume_lines::push_cells` meets its contract: the lines of the cells before the turn's are appended. Assumes nothing.
use Prim.Native.Nat.{ℕ}
use lib.IntN.{pos}
use lib.ListN.{get_or}
use Rattle.buffer.proofs.Joined.{Appended}
use Rattle.volume_lines.specs.Lines.{cell_line}
use Rattle.volume_lines.proofs.push_cells.Given as goal

abbrev pub invariant-loop-k : goal.invariant-loop-k
invariant-loop-k l = Appended (λ (j : ℕ). cell_line j (get_or l.volumes j (pos 0))) l.initial.out.items l.out.items l.k
