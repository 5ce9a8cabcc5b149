-- `buffer::put_all` meets its contract: where there is room for all of them, the numbers are stored. Assumes nothing.
use Rattle.buffer.proofs.Writing.{length_all, puts_nothing, puts_written}
use Rattle.buffer.proofs.put_all.Goals as goal

pub returns-then-not-fits : goal.returns-then-not-fits
returns-then-not-fits g c = puts_nothing _ _ (length_all _ _ _) (rw c.WIDTH-width.ensures at c.fits.ensures) c.if-not-fits.true

pub returns : goal.returns
returns g c =
    rw c.WIDTH-width.ensures (puts_written _ _ (length_all _ _ _) (rw c.WIDTH-width.ensures at c.fits.ensures) c.if-not-fits.false c.store_all.ensures)
