-- `probe::locate_checked` meets its contract: its answer is the definition's, which keeps both halves of demand 3. Assumes nothing.
use denote.Floats.{passes}
use lib.Ieee.{binary64}
use Rattle.rounding.proofs.Arguments.{array_fits}
use Rattle.probe.proofs.Demand.{locate_promises}
use Rattle.probe.proofs.locate_checked.Goals as goal

pub returns : goal.returns
returns c =
    let corners = c.args.corners in
    let all = locate_promises corners c.args.tolerance c.locate.result (array_fits binary64 24 corners _ c.well_formed.0)
    (passes _ c.well_formed.1.0.1) c.locate.ensures in
    record { value = all.0; sound = all.1.0; complete = all.1.1 }
