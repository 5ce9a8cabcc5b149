-- `hex_iso_position::sign_of` meets its contract: computed for each of the eight corners. Assumes nothing.
use Prim.Native.Nat.{ℕ, ◌+◌}
use mathlib.Core.Path.{refl}
use mathlib.Core.Bool.{cond}
use mathlib.Core.List.{List, [], ◌∷◌}
use lib.Bits.{bit_and}
use lib.Dec.{eqb}
use lib.Ieee.{Float}
use Rattle.numbers.proofs.Tabulate.{tabulate_same}
use Rattle.binary64.specs.Binary64.{f1, m1}
use Rattle.hex_iso_position.specs.Position.{sign}
use Rattle.hex_iso_position.proofs.sign_of.Goals as goal

abbrev on : ℕ → Float
on bit = cond (eqb bit 0) m1 f1

abbrev computed : ℕ → List Float
computed k = on (bit_and (k + 1) 2) ∷ on (bit_and k 2) ∷ on (bit_and k 4) ∷ []

pub returns : goal.returns
returns c =
    rw (c.side-3.ensures, c.side-2.ensures, c.side.ensures) (tabulate_same 8 computed sign refl c.args.i_node c.requires)
