-- `hex_iso::vert_list` meets its contract. The invariant: the rows of the edges passed are stored. Assumes nothing.
use mathlib.Core.Path.{◌≡◌}
use Rattle.numbers.proofs.Fill.{fill_rows}
use Rattle.hex_iso.specs.Edges.{edge_on}
use Rattle.hex_iso.proofs.vert_list.Given as goal

abbrev pub invariant-loop-i_edge : goal.invariant-loop-i_edge
invariant-loop-i_edge l =
    l.vertlist ≡ fill_rows (edge_on l.fn.cube.center l.fn.cube.half_width l.fn.corner_value) 3 l.i_edge l.initial.vertlist
