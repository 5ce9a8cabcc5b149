-- `buffer::store` meets its contract: what is written is the number's own bytes, the first of the eight. Assumes nothing.
use mathlib.Core.Path.{◌≡◌, ◌∙◌}
use lib.ListN.{take}
use Rattle.numbers.specs.Little.{bytes}
use Rattle.numbers.proofs.Little.{length_bytes}
use Rattle.buffer.proofs.Numbers.{first_bytes}
use Rattle.buffer.proofs.Writing.{wrote_part}
use Rattle.buffer.proofs.store.Goals as goal

pub returns : goal.returns
returns g c =
    let w = g.T.Little.WIDTH in
    let x = g.T.Little.value c.args.x in
    let own : take w c.to_bytes-low.result ≡ bytes w x = rw c.to_bytes-low.ensures (first_bytes w 8 x g.met.T.Little.most_bytes) in
    rw c.WIDTH.ensures (wrote_part c.requires (rw c.WIDTH-2.ensures at c.copy_from_slice.ensures.after ∙ own) (length_bytes w x))
