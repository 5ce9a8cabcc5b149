-- `hex_iso_mask::cube_index` meets its contract. The invariant: the bits of the corners passed are set as the definition has it. Assumes nothing.
use mathlib.Core.Path.{◌≡◌}
use Rattle.numbers.specs.Bits.{with_bits}
use Rattle.hex_iso_mask.specs.Cut.{below}
use Rattle.hex_iso_mask.proofs.cube_index.Given as goal

abbrev pub invariant-loop-i_node_hex : goal.invariant-loop-i_node_hex
invariant-loop-i_node_hex l = l.cubeindex ≡ with_bits l.i_node_hex (below l.fn.corner_value)
