-- `volume_report::Cell::volume` meets its contract: the volume is 18 times the sum of three determinants. Assumes nothing.
use mathlib.Core.Path.{sym, ◌∙◌}
use Rattle.exact_volume.proofs.Determinants.{three_determinants}
use Rattle.volume_report.specs.Sized.{at}
use Rattle.volume_report.proofs.Steps.{eighteen, of_parts, eighteen_times}
use Rattle.volume_report.proofs.Cell.volume.Goals as goal

pub returns : goal.returns
returns c =
    let args = c.args in
    eighteen_times c.part-first.ensures c.part-second.ensures c.part-third.ensures
    ∙ sym (three_determinants (at args.self.now.x.x) (at args.self.now.y.x) (at args.self.now.z.x))

pub overflow_mul-result : goal.overflow_mul-result
overflow_mul-result c = (of_parts c.part-first.ensures c.part-second.ensures c.part-third.ensures eighteen tt).fits
