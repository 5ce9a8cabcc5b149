-- `prism_volume::sum_of_terms` meets its contract: a turn adds one term, and nested loops go through the terms in order. Assumes nothing.
use Prim.Native.Nat.{◌<◌}
use native.Mathlib.Omega.{arith}
use mathlib.Core.Path.{◌≡◌, ◌∙◌}
use lib.ListN.{length}
use Rattle.numbers.proofs.Fold.{rows_none, row_more, row_done, rows_done}
use Rattle.prism_volume.specs.Volume.{sum_over}
use Rattle.prism_volume.proofs.sum_of_terms.Goals as goal

pub loop-line-init : goal.loop-line-init
loop-line-init c = rw rows_none

pub loop-triangle-preserved : goal.loop-triangle-preserved
loop-triangle-preserved c =
    let within : c.loop-triangle.triangle-index < length c.args.quad_t.now = c.loop-triangle-test.true in
    rw (row_more, ← c.loop-triangle.invariant, c.term-volume.ensures)

pub loop-line-preserved : goal.loop-line-preserved
loop-line-preserved c =
    let done : c.loop-triangle.triangle-index ≡ length c.args.quad_t.now = omega (arith, c.loop-triangle-test.false, c.loop-triangle.auto.triangle-index-end) in
    rw done at c.loop-triangle.invariant ∙ rw row_done

pub returns : goal.returns
unfolding sum_over
returns c =
    let done : c.loop-line.line-index ≡ length c.args.quad_l.now = omega (arith, c.loop-line-test.false, c.loop-line.auto.line-index-end) in
    rw done at c.loop-line.invariant ∙ rw rows_done
