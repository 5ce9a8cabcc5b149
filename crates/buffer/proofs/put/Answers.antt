-- `buffer::put` meets its contract: where there is room for it, the number is stored. Assumes nothing.
use Prim.Native.Nat.{◌*◌}
use native.Mathlib.Omega.{arith}
use mathlib.Core.Path.{◌≡◌}
use Rattle.numbers.proofs.Little.{length_bytes}
use Rattle.buffer.proofs.Writing.{puts_nothing, puts_written}
use Rattle.buffer.proofs.put.Goals as goal

pub returns-then-not-fits : goal.returns-then-not-fits
returns-then-not-fits g c =
    puts_nothing _ _ (omega (arith, length_bytes g.T.Little.WIDTH (g.T.Little.value c.args.x), c.WIDTH-width.ensures)) c.fits.ensures c.if-not-fits.true

pub returns : goal.returns
returns g c =
    let one : c.WIDTH-width.result * 1 ≡ g.T.Little.WIDTH = omega (arith, c.WIDTH-width.ensures) in
    rw c.WIDTH-width.ensures (puts_written _ _ (length_bytes _ _) (rw one at c.fits.ensures) c.if-not-fits.false c.store.ensures)
