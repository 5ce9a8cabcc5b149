-- `refine::find` meets its contract: the key is none of those that the loops have passed. Assumes nothing.
use Prim.Native.Nat.{◌<◌}
use native.Mathlib.Nat.{add-zero}
use native.Mathlib.Omega.{arith}
use mathlib.Core.Path.{◌≡◌}
use borrow.Author.Rules.{rules}
use Rattle.refine.proofs.Places.{missing_more, finds_nothing, finds_at}
use Rattle.numbers.proofs.Slots.{row_next, row_within}
use Rattle.refine.proofs.find.Goals as goal

pub search-init : goal.search-init
search-init c = (search rules, λ j below e. omega arith)

pub loop-i-init : goal.loop-i-init
loop-i-init c =
    let outer = c.search in
    let args = c.args in
    let less : outer.c < args.cell = omega arith in
    (less, row_within args.width outer.c args.cell less, search rules, rw add-zero outer.invariant.1)

pub loop-i-preserved : goal.loop-i-preserved
loop-i-preserved c =
    let args = c.args in
    let inv = c.loop-i.invariant in
    (inv.0, inv.1, search rules, missing_more args.keys.now _ _ _ (omega arith) inv.3 c.if-keys-at.false)

pub search-preserved : goal.search-preserved
search-preserved c =
    let inner = c.loop-i in
    let full : inner.i ≡ c.args.width = omega arith in
    (omega arith, rw row_next (rw full at inner.invariant.3))

pub returns-then-c-cell : goal.returns-then-c-cell
returns-then-c-cell c =
    let args = c.args in
    let last : c.search.c ≡ args.cell = c.if-c-cell.true in
    finds_nothing args.keys.now args.numbers.now _ _ c.requires.0 (rw last at c.search.invariant.1)

pub returns-then-keys-at : goal.returns-then-keys-at
returns-then-keys-at c =
    let args = c.args in
    finds_at args.keys.now args.numbers.now _ _ c.requires.0 _ (omega arith) c.loop-i.invariant.3 c.if-keys-at.true
