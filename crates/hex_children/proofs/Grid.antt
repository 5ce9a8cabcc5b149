-- The 27 nodes fill the grid, and every corner of a child is one of them: a computed test each. Assumes nothing.
use Prim.Native.Nat.{ℕ}
use mathlib.Core.Bool.{Bool}
use mathlib.Core.List.{[], ◌∷◌}
use lib.Dec.{eqb, eqb→eq, ltb, ltb→lt}
use lib.ListN.{get_or}
use Rattle.numbers.specs.Rule.{count, all}
use Rattle.numbers.proofs.Tests.{all_at, all_at_pair}
use Rattle.hex_children.specs.Children.{nodes, child_node, stands_at, NodesOfTheGrid, CornersAreNodes}

-- one node stands at this place
abbrev fills : ℕ → ℕ → ℕ → Bool
fills x y z = eqb (count 27 (λ (n : ℕ). stands_at (x ∷ y ∷ z ∷ []) (get_or nodes n []))) 1

pub nodes_of_the_grid : NodesOfTheGrid
nodes_of_the_grid x y z hx hy hz =
    eqb→eq _ _ (all_at_pair 3 3 (fills x) (all_at 3 (λ (x : ℕ). all 3 (λ (y : ℕ). all 3 (fills x y))) tt x hx) y z hy hz)

pub corners_are_nodes : CornersAreNodes
corners_are_nodes i k hi hk = ltb→lt _ _ (all_at_pair 8 8 (λ (i k : ℕ). ltb (child_node i k) 27) tt i k hi hk)
