-- `isnemgul::isn_hex_check` meets its contract: the place is the three floats lent, its two calls are composed, and 0 tells an acceptance.
-- Assumes nothing.
use Rattle.hex_image.specs.Image.{image_at}
use Rattle.probe.specs.Check.{checked}
use Rattle.probe.specs.Exact.{exact_image}
use Rattle.isnemgul.proofs.Demand.{check_told}
use Rattle.isnemgul.proofs.isn_hex_check.Goals as goal

pub returns : goal.returns
unfolding checked image_at exact_image
returns c =
    let args = c.args in
    let judged = c.judge.ensures in
    let all = check_told args.corners.now args.at.now args.tolerance c.judge.result c.number_of.result c.number_of.ensures
    (judged.value, (judged.sound, judged.complete)) in
    record { value = all.0; sound = all.1.0; complete = all.1.1 }
