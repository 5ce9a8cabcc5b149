-- `volume_report::Corners::along` meets its contract: differences of grid numbers are small. Assumes nothing.
use Rattle.volume_report.proofs.Steps.{twist, on_grid, differences}
use Rattle.volume_report.proofs.Corners.along.Goals as goal

pub returns : goal.returns
returns c = (differences c.args.self.now c.args.p c.args.q c.args.u c.args.v).are

pub overflow_add-result : goal.overflow_add-result
overflow_add-result c = (on_grid c.args.self.now (twist c.args.p c.args.q c.args.u c.args.v) tt).fits

pub invariant_of-result : goal.invariant_of-result
invariant_of-result c = record { small = (differences c.args.self.now c.args.p c.args.q c.args.u c.args.v).small }
