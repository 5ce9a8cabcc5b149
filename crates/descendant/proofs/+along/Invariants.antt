-- `descendant::along` ends: each call goes along a shorter path.
use lib.ListN.{length}
use Rattle.descendant.proofs.+along.Given as goal

abbrev pub decreases-along : goal.decreases-along
decreases-along l = length l.path.now
