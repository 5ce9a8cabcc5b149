-- `hex_iso::vert_list` meets its contract. The invariant: the rows of the edges passed are stored. Assumes nothing.
use Prim.Native.Nat.{ℕ, ◌<◌}
use native.Mathlib.Numerals.{add-one}
use native.Mathlib.Omega.{arith}
use mathlib.Core.Path.{◌≡◌, refl, ap, ◌∙◌}
use mathlib.Core.List.{List}
use lib.Ieee.{Float}
use Rattle.numbers.specs.Bits.{bit}
use Rattle.numbers.specs.Rule.{tabulate}
use Rattle.numbers.proofs.Fill.{fill_row, fill_rows}
use Rattle.cell.specs.Edges.{end}
use Rattle.hexahedron.specs.Cube.{edges}
use Rattle.hex_iso_mask.specs.Cut.{cut, sign_index, mask_of}
use Rattle.hex_iso_mask.proofs.Cut.{cut_edges}
use Rattle.hex_iso_position.specs.declared.End.{End}
use Rattle.hex_iso.specs.Edges.{end_on, held_between, edge_on}
use Rattle.hex_iso.proofs.vert_list.Goals as goal

-- What is held by the mask's bit between the ends of an edge is what the edge holds: the bit says whether it is cut.
by_the_mask : (center : List Float) (half_width : Float) (value : List Float) (e0 e : ℕ) (table : List (List ℕ)) (a b : End) (held : List Float)
    → table ≡ edges → e0 ≡ mask_of (sign_index value) → e < 12 → a ≡ end_on value (end table e 0) → b ≡ end_on value (end table e 1)
    → held ≡ tabulate 3 (held_between (bit e0 e) center half_width a b) → held ≡ tabulate 3 (edge_on center half_width value e)
unfolding edge_on
by_the_mask center half_width value e0 e table a b held table_is mask below a_is b_is is =
    let is_cut : bit e0 e ≡ cut (sign_index value) e = ap (λ (m : ℕ). bit m e) mask ∙ cut_edges.bits (sign_index value) e below in
    simp is_cut at (rw table_is at (rw (a_is, b_is) at is))

pub loop-i_edge-init : goal.loop-i_edge-init
unfolding fill_rows
loop-i_edge-init c = refl

pub loop-i_edge-preserved : goal.loop-i_edge-preserved
unfolding fill_row fill_rows
loop-i_edge-preserved c =
    let at = c.args in
    let row = by_the_mask at.cube.center at.cube.half_width at.corner_value at.e0 c.loop-i_edge.i_edge _ _ _ _ c.edge2node-edge2node.ensures
    c.requires (omega arith) c.corner-end0.ensures c.corner-end1.ensures c.vert-p.ensures in
    simp (c.put_vert.ensures, row, c.loop-i_edge.invariant, add-one)

pub returns : goal.returns
unfolding fill_row fill_rows
returns c =
    let last : c.loop-i_edge.i_edge ≡ 12 = omega arith in
    rw last at c.loop-i_edge.invariant
