-- `isnemgul::isn_hex_check_proposals` meets its contract: the corners are copied, `check_proposals` has the list and the output, `put` the count, and what
-- the two say is what is said here, since 0 tells a list that was judged. Assumes nothing.
use Rattle.std.proofs.Common.{length}
use Rattle.answer.specs.Told.{told}
use Rattle.proposals.specs.Judgements.{judgements, zeros_in}
use Rattle.refusals.proofs.Numbers.{refusals_numbered}
use Rattle.isnemgul.proofs.Demand.{list_told}
use Rattle.isnemgul.proofs.isn_hex_check_proposals.Goals as goal

pub returns : goal.returns
returns c =
    let judged = c.check_proposals.ensures in
    let args = c.args in
    let room = length args.out.now in
    let counts = list_told (told c.check_proposals.result) (zeros_in (judgements args.corners.now args.list.now room)) c.put.result args.accepted.now
    c.put.new.out c.put.ensures judged.answer (refusals_numbered.of_proposals args.corners.now args.list.now room) in
    record {
      answer = rw (← judged.answer) c.put.ensures;
      output = judged.output;
      sound = λ zero. judged.sound c.put.new.out (counts zero);
      complete = λ zero. judged.complete c.put.new.out (counts zero);
    }
