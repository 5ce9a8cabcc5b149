-- `mesh_children::write_cells` meets its contract: before each cell the output has the children of the cells passed. Assumes nothing.
use Prim.Native.Nat.{◌+◌, ◌*◌, ◌-◌}
use native.Mathlib.Omega.{arith}
use mathlib.Core.Path.{◌≡◌, ◌∙◌}
use lib.ListN.{length}
use Rattle.numbering.proofs.Steps.{chain_length}
use Rattle.mesh_children.specs.MeshChildren.{children_of, whole_cells}
use Rattle.mesh_children.proofs.Output.{whole_cells_is, children_is, children_long, nothing_yet, part_more}
use Rattle.mesh_children.proofs.write_cells.Goals as goal

pub loop-c-init : goal.loop-c-init
loop-c-init c = nothing_yet _ _

pub loop-c-preserved : goal.loop-c-preserved
loop-c-preserved c =
    let args = c.args in
    let i = c.loop-c.c in
    let wide : 64 * i + 64 - 64 * i ≡ 64 = omega arith in
    let is =
    c.write_children.ensures
    ∙ children_is args.cells.now args.edges.now args.faces.now args.centers.now _ _ _ i c.as_chunks.ensures.front c.as_chunks-2.ensures.front
    c.as_chunks-3.ensures.front (omega arith) (omega arith) (omega arith) in
    part_more _ (children_long args.cells.now args.edges.now args.faces.now args.centers.now) i (64 * i + 64 - 64 * i) _ _ _ wide is c.loop-c.invariant

pub returns : goal.returns
returns c =
    let args = c.args in
    let count = whole_cells args.cells.now args.edges.now args.faces.now args.centers.now (length args.out.now) in
    let long = children_long args.cells.now args.edges.now args.faces.now args.centers.now in
    let is = whole_cells_is args.cells.now args.edges.now args.faces.now args.centers.now (length args.out.now) in
    let done : c.loop-c.c ≡ count =
    omega (arith, c.as_chunks.ensures.front_len, c.as_chunks-2.ensures.front_len, c.as_chunks-3.ensures.front_len) ∙ is in
    rw (chain_length 64 (children_of args.cells.now args.edges.now args.faces.now args.centers.now) long count)
    (rw done at c.loop-c.invariant)
