-- The entries of the table are the masks of their indexes, by one test that antt computes over all of them. Assumes nothing.
use Prim.Native.Nat.{ℕ, ◌<◌}
use mathlib.Core.Path.{◌≡◌, refl, ap, ◌∙◌}
use mathlib.Core.Bool.{Bool}
use lib.Dec.{T, eqb, eqb→eq}
use lib.ListN.{get_or}
use Rattle.numbers.specs.Bits.{bit}
use Rattle.numbers.proofs.Table.{every, at}
use Rattle.hex_iso_mask.specs.Cut.{mask_of}
use Rattle.hex_iso_mask.proofs.Cut.{cut_edges}
use Rattle.iso_table.specs.Table.{iso_edge, TableOfMasks}

-- the number at this place has the bits of the edges that are cut
abbrev right : ℕ → ℕ → Bool
right index mask = eqb mask (mask_of index)

whole : T (every right 0 iso_edge)
unfolding mask_of iso_edge
whole = tt

masks : (index : ℕ) → index < 256 → get_or iso_edge index 0 ≡ mask_of index
unfolding iso_edge
masks index below = eqb→eq (get_or iso_edge index 0) (mask_of index) (at right iso_edge whole index below)

pub table_of_masks : TableOfMasks
unfolding iso_edge
table_of_masks =
    record {
      entries = refl;
      table = λ index k below inside. ap (λ (m : ℕ). bit m k) (masks index below) ∙ cut_edges.bits index k inside;
      masks = masks;
    }
