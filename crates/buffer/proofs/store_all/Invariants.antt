-- `buffer::store_all` meets its contract: before turn i the first i numbers are written. Assumes nothing.
use Rattle.buffer.proofs.Writing.{Laid}
use Rattle.buffer.proofs.store_all.Given as goal

abbrev pub invariant-loop-i : goal.invariant-loop-i
invariant-loop-i g l = Laid g.T.Little.WIDTH g.T.Little.value l.list l.initial.out l.out l.at l.i
