-- The 18 nodes of a refined prism stand apart, and every corner of a child is one of them: a computed test each. Assumes nothing.
use Prim.Native.Nat.{ℕ}
use mathlib.Core.List.{[]}
use lib.Dec.{eqb, eqb→eq, ltb, ltb→lt}
use lib.ListN.{get_or}
use Rattle.numbers.specs.Rule.{count}
use Rattle.numbers.proofs.Tests.{all_at, all_at_pair}
use Rattle.cell.specs.Middles.{same_middle, node_at}
use Rattle.prism_children.specs.Children.{at, nodes, child_corner, NodesApart, CornersAreNodes}

pub nodes_apart : NodesApart
nodes_apart n h =
    eqb→eq _ _ (all_at 18 (λ (n : ℕ). eqb (count 18 (λ (m : ℕ). same_middle at (get_or nodes m []) (get_or nodes n []))) 1) tt n h)

pub corners_are_nodes : CornersAreNodes
corners_are_nodes i k hi hk = ltb→lt _ _ (all_at_pair 8 6 (λ (i k : ℕ). ltb (node_at at nodes (child_corner i k)) 18) tt i k hi hk)
