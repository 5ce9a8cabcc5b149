-- `cell::image_entry` meets its contract: a turn adds one corner to the sum. Assumes nothing.
use native.Mathlib.Omega.{arith}
use mathlib.Core.Path.{◌≡◌}
use borrow.Author.Rules.{rules}
use Rattle.cell.proofs.Sums.{image_more}
use Rattle.cell.proofs.image_entry.Goals as goal

pub loop-inode-preserved : goal.loop-inode-preserved
loop-inode-preserved c =
    let args = c.args in (
      search rules,
      search rules,
      image_more c.loop-inode.inode args.an.now args.p.now args.axis _ _ c.loop-inode.invariant.0 c.loop-inode.invariant.2
          c.image_term-pos-in-loop-inode.ensures,
    )

pub returns : goal.returns
returns c =
    let done : c.loop-inode.inode ≡ c.args.corners = omega arith in
    simp (c.loop-inode.invariant.2, done)
