-- `proposals::check_proposals` meets its contract: a list that is refused is left before the first turn; a turn writes one judgement more and counts it if
-- it is 0; and after the last the numbers and the count are those of the definition. Assumes nothing.
use native.Mathlib.Omega.{arith}
use mathlib.Core.List.{map}
use Rattle.proposals.specs.Judgements.{judgement}
use Rattle.proposals.proofs.Demand.{one_more_kept}
use Rattle.proposals.proofs.Written.{count_fits, as_number, counts_one, one_more_written, one_more_counted}
use Rattle.proposals.proofs.check_proposals.Goals as goal

pub overflow_add-accepted : goal.overflow_add-accepted
overflow_add-accepted c =
    let fits = count_fits (map (judgement c.args.corners) c.args.list.now) c.loop-i.i 256 (omega arith) (omega arith) in
    omega (arith, counts_one _ _ c.from-accepted.ensures)

pub loop-i-preserved : goal.loop-i-preserved
loop-i-preserved c =
    let list = c.args.list.now in
    let judged = judgement c.args.corners in
    let i = c.loop-i.i in
    let before = c.loop-i.invariant in
    let number = c.judge-number in
    record {
      within = omega arith;
      written = rw (before.written, number.ensures.value) (one_more_written judged list _ i (omega arith) c.args.out.now (omega arith));
      counted = rw (before.counted, c.from-accepted.ensures, as_number, number.ensures.value) (one_more_counted judged list _ i (omega arith));
      kept =
          one_more_kept c.args.corners list i _ number.result (omega arith)
          number.ensures.value number.ensures.sound number.ensures.complete before.kept;
    }
