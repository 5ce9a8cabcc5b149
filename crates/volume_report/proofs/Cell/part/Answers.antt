-- `volume_report::Cell::part` meets its contract: the determinant of three axes' differences. Assumes nothing.
use Rattle.volume_report.proofs.Steps.{parted}
use Rattle.volume_report.proofs.Cell.part.Goals as goal

pub returns : goal.returns
returns c =
    let args = c.args in
    parted args.self.now.x.x args.self.now.y.x args.self.now.z.x args.p args.q args.u args.v c.along.result c.along-2.result c.along-3.result _
    c.along.ensures c.along-2.ensures c.along-3.ensures c.determinant.ensures
