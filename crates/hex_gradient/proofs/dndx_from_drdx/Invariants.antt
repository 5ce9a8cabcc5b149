-- `hex_gradient::dndx_from_drdx` meets its contract: a turn stores the three slopes of its corner. Assumes nothing.
use mathlib.Core.Path.{◌≡◌}
use Rattle.numbers.proofs.Fill.{fill_rows}
use Rattle.hex_gradient.specs.Gradient.{slope_in_space}
use Rattle.hex_gradient.proofs.dndx_from_drdx.Given as goal

abbrev pub invariant-loop-inode : goal.invariant-loop-inode
invariant-loop-inode l = l.dndx ≡ fill_rows (slope_in_space l.dndr l.drdx) 3 l.inode l.initial.dndx
