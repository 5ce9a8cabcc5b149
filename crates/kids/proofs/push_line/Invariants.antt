-- `kids::push_line` meets its contract: the numbers before the turn's are appended, each with what stands behind it. Assumes nothing.
use Rattle.buffer.proofs.Joined.{Appended}
use Rattle.kids.specs.Table.{field}
use Rattle.kids.proofs.push_line.Given as goal

abbrev pub invariant-loop-j : goal.invariant-loop-j
invariant-loop-j l = Appended (field 8 l.numbers 0) l.initial.out.items l.out.items l.j
