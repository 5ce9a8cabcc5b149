-- `hex_iso_mask::cut_edges` meets its contract: the code is computed at each of the 256 indices. Assumes nothing.
use Prim.Native.Nat.{ℕ, ◌%◌, ◌^◌, ◌<◌}
use native.Mathlib.Nat.{mod-lt, mod-eq_of_lt, lt_trans}
use mathlib.Core.Path.{refl}
use lib.Dec.{lit<}
use Rattle.numbers.proofs.Tabulate.{same_everywhere}
use Rattle.hex_iso_mask.specs.Cut.{mask_of}
use Rattle.hex_iso_mask.proofs.cut_edges.Goals as goal

left_fits : (k : ℕ) → k % 256 < 2 ^ 32
left_fits k = lt_trans (mod-lt k (lit< tt)) (lit< tt)

-- the call with k, or with what 256 leaves of it
abbrev called : ℕ → goal.Start
called k =
    record {
      args = record { cubeindex = k % 256 };
      well_formed = ((refl, left_fits k), tt);
      ranges = record { cubeindex = record { fits = left_fits k } };
      requires = mod-lt k (lit< tt);
    }

pub returns : goal.returns
unfolding mask_of
returns =
    same_everywhere
    256
    (λ c. c.args.cubeindex)
    called
    (λ c. c.requires)
    (λ c. rw (mod-eq_of_lt c.requires))
    (λ c. rw (mod-eq_of_lt c.requires))
    refl
