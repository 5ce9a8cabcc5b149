-- `kids::push_line` meets its contract: each number is appended with what stands behind it. Assumes nothing.
use Prim.Native.Nat.{◌+◌}
use native.Mathlib.Omega.{arith}
use mathlib.Core.Path.{◌≡◌, sym}
use borrow.Author.Tests.{eq-eqb, ne_eqb}
use Rattle.numbers.proofs.Cases.{never}
use Rattle.buffer.proofs.Joined.{appended_none, appended_more, appended_room}
use Rattle.kids.specs.Table.{behind}
use Rattle.kids.proofs.Lines.{number_room, byte_room, field_more}
use Rattle.kids.proofs.push_line.Goals as goal
use Rattle.kids.proofs.push_line.Goals.{then-j-lt7, else-j-lt7}

pub loop-j-init : goal.loop-j-init
loop-j-init c = appended_none

pub returns-in_err-push_decimal-clause-room : goal.returns-in_err-push_decimal-clause-room
returns-in_err-push_decimal-clause-room c fits =
    let room = appended_room c.loop-j.invariant 8 (omega arith) fits in
    never (sym (c.in_err-push_decimal.ensures.variant.1 (number_room c.args.numbers.now c.loop-j.j c.from.ensures c.loop-j.out.items room)))

pub returns-in_err-try_extend_from_slice-clause-room : goal.returns-in_err-try_extend_from_slice-clause-room
returns-in_err-try_extend_from_slice-clause-room c fits =
    let room = appended_room c.loop-j.invariant 8 (omega arith) fits in
    let byte = byte_room c.args.numbers.now c.loop-j.j c.from.ensures c.loop-j.out.items room _ c.in_ok-push_decimal.ensures.ok in
    never (sym (c.in_err-try_extend_from_slice.ensures.variant.1 (omega (arith, byte))))

pub loop-j-preserved : goal.loop-j-preserved
loop-j-preserved c =
    let byte : c.if-j-lt7.behind ≡ behind c.loop-j.j 8 =
    elim c.if-j-lt7.branch [
      | then-j-lt7 w ↦ rw (ne_eqb (c.loop-j.j + 1) 8 (omega arith)) w.behind-is
      | else-j-lt7 w ↦ rw (eq-eqb (c.loop-j.j + 1) 8 (omega arith)) w.behind-is
    ]
    in
    appended_more c.loop-j.invariant
    (field_more c.args.numbers.now c.loop-j.j c.from.ensures c.loop-j.out.items byte c.in_ok-push_decimal.ensures.ok c.in_ok-try_extend_from_slice.ensures.ok)
