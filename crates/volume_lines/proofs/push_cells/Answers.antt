-- `volume_lines::push_cells` meets its contract: each line is appended, of a volume that is read from its bits. Assumes nothing.
use native.Mathlib.Omega.{arith}
use mathlib.Core.Path.{sym}
use borrow.Author.Rules.{rules}
use lib.IntN.{pos}
use lib.ListN.{length, get_or}
use mir.Syntax.{w64}
use mir.Val.{SFits}
use mir.Facts.{to_z-of_z}
use Rattle.numbers.proofs.Cases.{never}
use Rattle.buffer.proofs.Joined.{appended_none, appended_more, appended_room}
use Rattle.volume_lines.proofs.push_cells.Goals as goal

pub loop-k-init : goal.loop-k-init
loop-k-init c = appended_none

pub returns-in_err-push_cell-clause-room : goal.returns-in_err-push_cell-clause-room
returns-in_err-push_cell-clause-room c fits =
    let read : SFits w64 (get_or c.args.volumes.now c.loop-k.k (pos 0)) = search rules in
    let room = appended_room c.loop-k.invariant (length c.args.volumes.now) (omega arith) fits in
    never (sym ((rw (to_z-of_z read) at c.in_err-push_cell.ensures.room) room))

pub loop-k-preserved : goal.loop-k-preserved
loop-k-preserved c =
    let read : SFits w64 (get_or c.args.volumes.now c.loop-k.k (pos 0)) = search rules in
    appended_more c.loop-k.invariant (rw (to_z-of_z read) at c.in_ok-push_cell.ensures.ok)
