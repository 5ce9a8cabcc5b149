-- `cell::jacobian_entry` meets its contract: a turn adds one corner to the sum. Assumes nothing.
use native.Mathlib.Omega.{arith}
use mathlib.Core.Path.{◌≡◌}
use borrow.Author.Rules.{rules}
use Rattle.cell.proofs.Sums.{jacobian_more}
use Rattle.cell.proofs.jacobian_entry.Goals as goal

pub loop-inode-preserved : goal.loop-inode-preserved
loop-inode-preserved c =
    let args = c.args in (
      search rules,
      jacobian_more c.loop-inode.inode args.p.now args.dndr.now args.row args.col _ _ _ c.loop-inode.invariant.1
          c.corner_at.ensures c.corner_at-in-loop-inode.ensures,
    )

pub returns : goal.returns
returns c =
    let done : c.loop-inode.inode ≡ c.args.corners = omega arith in
    simp (c.loop-inode.invariant.1, done)
