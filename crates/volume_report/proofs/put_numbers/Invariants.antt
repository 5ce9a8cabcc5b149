-- `volume_report::put_numbers` meets its contract: the first i words hold whole numbers, which are written. Assumes nothing.
use mathlib.Core.Path.{◌≡◌}
use lib.ListN.{take}
use Rattle.answer.specs.Answer.{answered}
use Rattle.volume_report.specs.Report.{grid_numbers}
use Rattle.volume_report.proofs.put_numbers.Given as goal

abbrev pub invariant-loop-i : goal.invariant-loop-i
invariant-loop-i l = grid_numbers (take l.i l.words) ≡ answered (take l.i l.out)
