-- `hex_iso_mask::cube_index` meets its contract. The invariant: the bits of the corners passed are set as the definition has it. Assumes nothing.
use Prim.Native.Nat.{ℕ, ◌*◌, ◌%◌, ◌^◌}
use mathlib.Core.Path.{ap, ◌∙◌}
use lib.Bits.{bit_or}
use native.Mathlib.Omega.{arith}
use Rattle.numbers.proofs.Bits.{with_bit_set, with_bit_clear}
use Rattle.hex_iso_mask.specs.Cut.{below}
use Rattle.hex_iso_mask.proofs.cube_index.Goals as goal
use Rattle.hex_iso_mask.proofs.cube_index.Goals.{then-value, else-value}

pub loop-i_node_hex-preserved : goal.loop-i_node_hex-preserved
loop-i_node_hex-preserved c =
    let i = c.loop-i_node_hex.i_node_hex in
    let passes = below c.args.corner_value in
    let so_far = c.loop-i_node_hex.invariant in
    elim c.if-value.branch [
      | then-value w ↦
          w.cubeindex-is ∙ ap (λ (x : ℕ). bit_or x (1 * 2 ^ i % 2 ^ 32)) so_far
          ∙ with_bit_set 32 i passes (omega arith) w.if-value.true
      | else-value w ↦ w.cubeindex-is ∙ so_far ∙ with_bit_clear i passes w.if-value.false
    ]
