-- A number that is read in a copy of its bytes, and a list of them. Assumes nothing.
use Prim.Native.Nat.{ℕ, ◌+◌, ◌*◌, ◌≤◌}
use native.Mathlib.Omega.{arith}
use mathlib.Core.Path.{◌≡◌, ◌∙◌, ap}
use mathlib.Core.List.{List, ◌++◌, map}
use lib.ListN.{length, take, drop, length-drop}
use lib.Seq.{take_at, length-take-le}
use Rattle.numbers.specs.Little.{little, number_at, numbers_at}
use Rattle.numbers.proofs.Stored.{Stores}
use Rattle.buffer.proofs.Numbers as Numbers

-- a number whose bytes are copied, whatever stands behind the copy
pub number_copied : (s copy rest : List ℕ) (w at : ℕ) → at + w ≤ length s → copy ≡ take w (drop at s) → number_at (copy ++ rest) w 0 ≡ number_at s w at
unfolding number_at
number_copied s copy rest w at fits e =
    let long : length copy ≡ w = ap length e ∙ length-take-le w (drop at s) (rw length-drop (omega arith)) in
    ap little (take_at copy rest w long ∙ e)

-- what a loop leaves that reads a whole list of them
pub all_loaded : {X : Type 0} (value : X → ℕ) (old out : List X) (s : List ℕ) (w at : ℕ) {i : ℕ}
    → Stores (λ (k : ℕ). number_at s w (at + w * k)) (length old) (map value old) (map value out) i → length old ≤ i
    → map value out ≡ numbers_at s w at (length old)
all_loaded = Numbers.all_loaded
