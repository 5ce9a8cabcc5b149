-- `volume_report::total` meets its contract: the sum of the volumes so far fits. Assumes nothing.
use Rattle.volume_report.proofs.Sums.{Summed}
use Rattle.volume_report.proofs.total.Given as goal

abbrev pub invariant-loop-volume : goal.invariant-loop-volume
invariant-loop-volume l = Summed l.volumes l.volume-index l.sum
