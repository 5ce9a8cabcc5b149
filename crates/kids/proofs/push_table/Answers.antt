-- `kids::push_table` meets its contract: each line is that of eight numbers of the list. Assumes nothing.
use Prim.Native.Nat.{◌/◌, ◌<◌}
use native.Mathlib.Omega.{arith}
use mathlib.Core.Path.{sym}
use lib.ListN.{length}
use Rattle.numbers.proofs.Cases.{never}
use Rattle.buffer.proofs.Joined.{appended_none, appended_more, appended_room, appended_all}
use Rattle.kids.proofs.Lines.{line_taken}
use Rattle.kids.proofs.push_table.Goals as goal

pub loop-line-init : goal.loop-line-init
loop-line-init c = appended_none

pub returns-in_err-push_line-clause-room : goal.returns-in_err-push_line-clause-room
returns-in_err-push_line-clause-room c fits =
    let numbers = c.args.numbers.now in
    let n = length numbers / 8 in
    let below : c.loop-line.line-index < n = omega (arith, c.as_chunks.ensures.front_len) in
    let line = rw (c.as_chunks.ensures.front, line_taken n numbers c.loop-line.line-index below) at c.in_err-push_line.ensures.room in
    never (sym (line (appended_room c.loop-line.invariant n below fits)))

pub loop-line-preserved : goal.loop-line-preserved
loop-line-preserved c =
    let numbers = c.args.numbers.now in
    let n = length numbers / 8 in
    let below : c.loop-line.line-index < n = omega (arith, c.as_chunks.ensures.front_len) in
    appended_more c.loop-line.invariant (rw (c.as_chunks.ensures.front, line_taken n numbers c.loop-line.line-index below) at c.in_ok-push_line.ensures.ok)

pub returns-clause-ok : goal.returns-clause-ok
returns-clause-ok c = appended_all c.loop-line.invariant (length c.args.numbers.now / 8) (omega (arith, c.as_chunks.ensures.front_len))
