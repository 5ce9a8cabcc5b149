-- `probe::held` meets its contract: an array by value is of floats that its format holds. Assumes nothing.
use lib.Ieee.{binary64}
use Rattle.rounding.proofs.Arguments.{array_fits}
use Rattle.probe.proofs.held.Goals as goal

pub returns : goal.returns
returns c = array_fits binary64 24 c.args.corners _ c.well_formed.0
