-- `cell::float_at` meets its contract: what is read, and beyond the end zero over zero, which is NaN. Assumes nothing.
use mathlib.Core.Path.{sym}
use lib.Ieee.{nan, div, of_bits}
use lib.ListN.{get_or-eq_default}
use Rattle.cell.proofs.float_at.Goals as goal

pub returns-else-k-l : goal.returns-else-k-l
unfolding div of_bits
returns-else-k-l c = sym (get_or-eq_default c.args.l.now nan c.if-k-l.false)
