-- The table of edges is that of the prism: one computed test. Assumes nothing.
use Rattle.cell.proofs.Edges.{edge_table}
use Rattle.prism.specs.Wedge.{edges, joined, EdgesOfThePrism}

pub edges_of_the_prism : EdgesOfThePrism
edges_of_the_prism = edge_table 6 joined edges tt
