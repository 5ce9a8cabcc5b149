-- `probe::judge` meets its contract: its answer is the definition's, which keeps both halves of demand 3. Assumes nothing.
use denote.Floats.{passes}
use Rattle.probe.proofs.Arguments.{point_fits}
use Rattle.probe.proofs.Demand.{check_promises}
use Rattle.probe.proofs.judge.Goals as goal

pub returns : goal.returns
returns c =
    let at = c.args.at in
    let all = check_promises c.args.corners.now at c.args.tolerance c.ladder.result c.held.ensures (point_fits at _ c.well_formed.1.0)
    (passes _ c.well_formed.1.1.0.1) c.ladder.ensures in
    record { value = all.0; sound = all.1.0; complete = all.1.1 }
