-- Which edges of the cube the surface of value zero cuts. Definitions and claims only.
use Rattle.std.specs.Prelude.{ℕ, ◌<◌, ◌^◌, ◌≡◌, Bool, cond, List, ltb, Float}
use Rattle.std.specs.Float.Ieee.{lt, unlike}
use Rattle.numbers.specs.Bits.{bit, with_bits}
use Rattle.binary64.specs.Binary64.{◌!◌, f0}
use Rattle.answer.specs.Answer.{Answer, answered, refused}
use Rattle.cell.specs.Edges.{end}
use Rattle.hexahedron.specs.Cube.{edges}
use Rattle.hex_iso_mask.specs.declared.IsoCut.{IsoCut}

-- "A corner's bit is set only for a value below zero: minus zero and NaN leave it clear."
abbrev pub below : List Float → ℕ → Bool
below value k = lt (value ! k) f0

unfoldable pub sign_index : List Float → ℕ
sign_index value = with_bits 8 (below value)

-- an edge is cut "when the two ends of edge k have different bits in the index"
abbrev pub cut : ℕ → ℕ → Bool
cut index k = unlike (bit index (end edges k 0)) (bit index (end edges k 1))

-- the mask of an index: "bit k is set exactly when" edge k is cut
unfoldable pub mask_of : ℕ → ℕ
mask_of index = with_bits 12 (cut index)

-- 9 behind the 256 entries
abbrev pub iso_mask : ℕ → Answer ℕ
iso_mask index = cond (ltb 255 index) (refused 9) (answered (mask_of index))

-- of a cube with these corner values "the sign index", and its mask
abbrev pub iso_cut : List Float → IsoCut
iso_cut value = record { index = sign_index value; mask = mask_of (sign_index value) }

-- "In all 256 entries of `ISO_EDGE`, bit k is set exactly when the two ends of edge k have different bits in the index": of the mask at every index, and no
-- bit stands above the twelve. That the 256 masks are the original's table is proved and run in iso_table.
pub record CutEdges : Type 0 where
  pub bits : (index k : ℕ) → k < 12 → bit (mask_of index) k ≡ cut index k
  pub twelve : (index : ℕ) → mask_of index < 2 ^ 12
