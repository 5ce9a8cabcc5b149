-- `buffer::put_byte` meets its contract: where there is room for it, the byte is stored. Assumes nothing.
use Prim.Native.Nat.{◌+◌}
use native.Mathlib.Omega.{arith}
use mathlib.Core.Path.{refl, sym}
use mathlib.Core.Bool.{true, false}
use borrow.Author.Tests.{le-leb, lt-leb}
use lib.ListN.{length}
use Rattle.buffer.proofs.Writing.{wrote_byte, puts_nothing, puts_written}
use Rattle.buffer.proofs.put_byte.Goals as goal

pub returns-then-at-out : goal.returns-then-at-out
returns-then-at-out c =
    let args = c.args in
    puts_nothing 1 false refl (sym (lt-leb (args.at + 1) (length args.out.now) (omega arith))) refl

pub returns : goal.returns
returns c =
    let args = c.args in
    puts_written 1 true refl (sym (le-leb (args.at + 1) (length args.out.now) (omega arith))) refl (wrote_byte (omega arith))
