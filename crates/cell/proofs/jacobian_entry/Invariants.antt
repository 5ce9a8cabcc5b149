-- `cell::jacobian_entry` meets its contract: a turn adds one corner to the sum. Assumes nothing.
use Prim.Native.Nat.{◌-◌, ◌≤◌}
use mathlib.Core.Path.{◌≡◌}
use Rattle.cell.specs.Image.{jacobian_on}
use Rattle.cell.proofs.jacobian_entry.Given as goal

abbrev pub invariant-loop-inode : goal.invariant-loop-inode
invariant-loop-inode l = (l.inode ≤ l.corners) × (l.dxdr ≡ jacobian_on l.inode l.p l.dndr l.row l.col)

abbrev pub decreases-loop-inode : goal.decreases-loop-inode
decreases-loop-inode l = l.corners - l.inode
