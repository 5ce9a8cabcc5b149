-- The bits of a mask are the cut edges, since it is made of them; a sign index is below 256. Assumes nothing.
use Prim.Native.Nat.{◌<◌}
use mathlib.Core.List.{List}
use lib.Ieee.{Float}
use Rattle.numbers.proofs.Bits.{with_bits_below, bit_of_with_bits}
use Rattle.hex_iso_mask.specs.Cut.{below, cut, sign_index, mask_of, CutEdges}

pub cut_edges : CutEdges
unfolding mask_of
cut_edges =
    record {
      bits = λ index. bit_of_with_bits 12 (cut index);
      twelve = λ index. with_bits_below 12 (cut index);
    }

pub index_below : (value : List Float) → sign_index value < 256
unfolding sign_index
index_below value = with_bits_below 8 (below value)
