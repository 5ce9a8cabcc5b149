-- `kids::push_report` meets its contract: an empty text has room for the head line and the table. Assumes nothing.
use Prim.Native.Nat.{◌/◌}
use native.Mathlib.Omega.{arith}
use mathlib.Core.Path.{sym, ap}
use lib.ListN.{length}
use Rattle.numbers.proofs.Cases.{never}
use Rattle.kids.proofs.Report.{head_most, table_most}
use Rattle.kids.proofs.push_report.Goals as goal

pub returns-in_err-push_head-clause-room : goal.returns-in_err-push_head-clause-room
returns-in_err-push_head-clause-room c empty =
    let head = head_most c.args.cells c.args.next c.requires.0 (omega arith) in
    never (sym (c.in_err-push_head.ensures.room (omega (arith, head, ap length empty))))

pub returns-clause-room : goal.returns-clause-room
returns-clause-room c empty =
    let numbers = c.args.children.now in
    let head = head_most c.args.cells c.args.next c.requires.0 (omega arith) in
    let rest = table_most numbers (λ i. omega (arith, c.type_inv.children i)) (length numbers / 8) in
    let long = ap length (rw empty at c.in_ok-push_head.ensures.ok) in
    c.push_table.ensures.room (omega (arith, head, rest, long, c.requires))
