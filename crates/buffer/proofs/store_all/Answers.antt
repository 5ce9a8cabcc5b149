-- `buffer::store_all` meets its contract: before turn i the first i numbers are written. Assumes nothing.
use native.Mathlib.Omega.{arith}
use Rattle.std.proofs.Common.{rules}
use Rattle.buffer.proofs.Writing.{laid_none, laid_more, laid_all}
use Rattle.buffer.proofs.store_all.Goals as goal

pub loop-i-init : goal.loop-i-init
loop-i-init g c = laid_none _ _ _

pub loop-i-preserved : goal.loop-i-preserved
loop-i-preserved g c =
    laid_more _ _ _ c.loop-i.invariant c.loop-i-test.true (search rules) (rw c.WIDTH.ensures at c.store.ensures)

pub returns : goal.returns
returns g c = laid_all _ _ _ c.loop-i.invariant (omega arith)
