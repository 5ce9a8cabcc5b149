-- `cell::jacobian_into` meets its contract: three rows stored are the Jacobian. Assumes nothing.
use mathlib.Core.Path.{refl}
use Rattle.cell.proofs.Sums.{jacobian_stored}
use Rattle.cell.proofs.jacobian_into.Goals as goal

pub returns : goal.returns
returns c =
    jacobian_stored c.args.corners c.args.p.now refl c.jacobian_row.ensures c.put_row.ensures
    c.jacobian_row-2.ensures c.put_row-2.ensures c.jacobian_row-3.ensures c.put_row-3.ensures
