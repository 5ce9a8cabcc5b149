-- `cell::image_entry` meets its contract: a turn adds one corner to the sum. Assumes nothing.
use Prim.Native.Nat.{◌-◌, ◌≤◌, ◌<◌}
use mathlib.Core.Path.{◌≡◌}
use Rattle.cell.specs.Image.{image_on}
use Rattle.cell.proofs.image_entry.Given as goal

abbrev pub invariant-loop-inode : goal.invariant-loop-inode
invariant-loop-inode l = (0 < l.inode) × (l.inode ≤ l.corners) × (l.pos ≡ image_on l.inode l.an l.p l.axis)

abbrev pub decreases-loop-inode : goal.decreases-loop-inode
decreases-loop-inode l = l.corners - l.inode
