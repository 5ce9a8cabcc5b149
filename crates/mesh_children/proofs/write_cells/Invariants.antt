-- `mesh_children::write_cells` meets its contract: before each cell the output has the children of the cells passed. Assumes nothing.
use Prim.Native.Nat.{◌*◌}
use mathlib.Core.Path.{◌≡◌}
use mathlib.Core.List.{◌++◌}
use lib.ListN.{drop}
use Rattle.numbering.specs.Refinement.{chain}
use Rattle.mesh_children.specs.MeshChildren.{children_of}
use Rattle.mesh_children.proofs.write_cells.Given as goal

abbrev pub invariant-loop-c : goal.invariant-loop-c
invariant-loop-c l = l.out ≡ chain l.c (children_of l.fn.cells l.fn.edges l.fn.faces l.centers) ++ drop (64 * l.c) l.initial.out
