-- `hex_volume::sum_of_terms` meets its contract: a turn adds one term, and nested loops go through the terms in order. Assumes nothing.
use Prim.Native.Nat.{◌*◌, ◌^◌, ◌<◌}
use native.Mathlib.Nat.{add_assoc, mul-zero, one-mul, pow-zero, pow-suc}
use native.Mathlib.Omega.{arith}
use mathlib.Core.Path.{◌≡◌, ◌∙◌}
use mathlib.Core.List.{List}
use lib.Ieee.{Float}
use lib.ListN.{length}
use Rattle.numbers.proofs.Fold.{rows_none, row_more, row_done, rows_done}
use Rattle.numbers.proofs.Slots.{row_next, slot_row, slot_place}
use Rattle.quadrature.specs.Points.{point}
use Rattle.hex_volume.specs.Volume.{term_of, sum_over}
use Rattle.hex_volume.proofs.sum_of_terms.Invariants.{sum_to}
use Rattle.hex_volume.proofs.sum_of_terms.Goals as goal

all_rows : (p : List Float) (points : List (List Float))
    → let n = length points in sum_to p points (n * n) 0 ≡ sum_over n (λ i j k. term_of p (point points i) (point points j) (point points k))
unfolding sum_over
all_rows p points =
    let n = length points in
    let cube : n ^ 3 ≡ n * n * n = rw (pow-suc n 2, pow-suc n 1, pow-suc n 0, pow-zero, one-mul) in
    rw (rows_done, ← cube)

pub loop-a-init : goal.loop-a-init
loop-a-init c = rw (mul-zero, rows_none)

pub loop-c-preserved : goal.loop-c-preserved
unfolding term_of
loop-c-preserved c =
    let n = length c.args.points.now in
    let row_in : c.loop-b.b-index < n = c.loop-b-test.true in
    let place_in : c.loop-c.c-index < n = c.loop-c-test.true in
    rw (row_more, slot_row, slot_place, ← c.loop-c.invariant, c.term-sum.ensures)

pub loop-b-preserved : goal.loop-b-preserved
loop-b-preserved c =
    let done : c.loop-c.c-index ≡ length c.args.points.now = omega (arith, c.loop-c-test.false, c.loop-c.auto.c-index-end) in
    rw done at c.loop-c.invariant ∙ rw (row_done, add_assoc)

pub loop-a-preserved : goal.loop-a-preserved
loop-a-preserved c =
    let done : c.loop-b.b-index ≡ length c.args.points.now = omega (arith, c.loop-b-test.false, c.loop-b.auto.b-index-end) in
    rw row_next (rw done at c.loop-b.invariant)

pub returns : goal.returns
returns c =
    let done : c.loop-a.a-index ≡ length c.args.points.now = omega (arith, c.loop-a-test.false, c.loop-a.auto.a-index-end) in
    rw done at c.loop-a.invariant ∙ all_rows _ _
