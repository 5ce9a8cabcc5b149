-- The tables of edges and faces are those of the cube: each claim is one computed test. Assumes nothing.
use Prim.Native.Nat.{ℕ, ◌+◌}
use lib.Dec.{eqb, eqb→eq}
use Rattle.numbers.specs.Rule.{count}
use Rattle.numbers.proofs.Tests.{all_at, all_at_pair}
use Rattle.cell.proofs.Edges.{edge_table}
use Rattle.hexahedron.specs.Cube.{edges, joined, ring, is_side, EdgesOfTheCube, FacesOfTheCube}

pub edges_of_the_cube : EdgesOfTheCube
edges_of_the_cube = edge_table 8 joined edges tt

pub faces_of_the_cube : FacesOfTheCube
faces_of_the_cube =
    record {
      sides = λ s h. eqb→eq _ _ (all_at 6 (λ (s : ℕ). eqb (count 6 (is_side s)) 1) tt s h);
      rings = all_at_pair 6 4 (λ (f j : ℕ). joined (ring f j) (ring f (j + 1))) tt;
    }
