-- `buffer::put_bytes` meets its contract: where there is room for it, the text is stored. Assumes nothing.
use Prim.Native.Nat.{◌+◌}
use native.Mathlib.Nat.{one-mul}
use mathlib.Core.Path.{◌≡◌, refl, sym, ◌∙◌}
use borrow.Author.Tests.{leb-true}
use lib.Dec.{leb}
use lib.ListN.{length}
use Rattle.buffer.proofs.Writing.{puts_nothing, puts_written, wrote_part}
use Rattle.buffer.proofs.put_bytes.Goals as goal

pub returns-then-not-fits : goal.returns-then-not-fits
returns-then-not-fits c = puts_nothing _ _ (sym (one-mul _)) c.fits.ensures c.if-not-fits.true

pub returns : goal.returns
returns c =
    let args = c.args in
    let fits : c.fits.result ≡ leb (args.at + length args.text.now) (length args.out.now) = rw (← one-mul (length args.text.now)) c.fits.ensures in
    let room = leb-true _ _ (sym fits ∙ c.if-not-fits.false) in
    puts_written _ _ refl fits c.if-not-fits.false (wrote_part room c.copy_from_slice.ensures.after refl)
