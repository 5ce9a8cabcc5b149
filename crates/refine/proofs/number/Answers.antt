-- `refine::number` meets its contract: a turn stores the number of one key more. Assumes nothing.
use Prim.Native.Nat.{◌+◌, ◌*◌, ◌<◌}
use native.Mathlib.Nat.{add-zero}
use native.Mathlib.Omega.{arith}
use mathlib.Core.Path.{◌≡◌, refl, sym}
use borrow.Author.Rules.{rules}
use lib.ListN.{length, length-set}
use Rattle.refine.proofs.Search.{numbered_none, keeps, gets}
use Rattle.refine.proofs.number.Goals.{in-Some, in-None}
use Rattle.refine.proofs.number.Goals as goal

pub loop-i-init : goal.loop-i-init
loop-i-init c = (search rules, refl, search rules, numbered_none _ _ _ _, sym (add-zero _))

pub loop-i-preserved : goal.loop-i-preserved
loop-i-preserved c =
    let args = c.args in
    let i = c.loop-i.i in
    let inv = c.loop-i.invariant in
    let m = args.width * args.cell in
    let room : m + i < length args.numbers.now = omega arith in
    elim c.match-find.branch [
      | in-Some w ↦
          let step = keeps args.keys.now args.numbers.now m args.first _ i room inv.3 _ w.in-Some.ensures in (
            omega arith,
            rw w.numbers-is (simp length-set inv.1),
            omega (arith, w.next-is),
            rw w.numbers-is step.0,
            omega (arith, w.next-is, step.1, inv.4),
          )
      | in-None w ↦
          let step = gets args.keys.now args.numbers.now m args.first _ i room inv.3 _ inv.4 w.in-None.ensures in (
            omega arith,
            rw w.numbers-is (simp length-set inv.1),
            omega (arith, w.next-is),
            rw w.numbers-is step.0,
            omega (arith, w.next-is, step.1, inv.4),
          )
    ]

pub returns : goal.returns
returns c =
    let inv = c.loop-i.invariant in
    let full : c.loop-i.i ≡ c.args.width = omega arith in
    record { numbers = rw full at inv.3; next = rw full at inv.4; few = omega arith }
