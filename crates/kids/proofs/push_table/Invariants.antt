-- `kids::push_table` meets its contract: the lines before the turn's are appended. Assumes nothing.
use Prim.Native.Nat.{ℕ, ◌*◌}
use Rattle.buffer.proofs.Joined.{Appended}
use Rattle.kids.specs.Table.{line}
use Rattle.kids.proofs.push_table.Given as goal

abbrev pub invariant-loop-line : goal.invariant-loop-line
invariant-loop-line l = Appended (λ (i : ℕ). line 8 l.numbers (8 * i)) l.initial.out.items l.out.items l.line-index
