-- The floats that a function is handed are floats that their format holds. Assumes nothing.
use Prim.Native.Nat.{ℕ, zero, suc, ◌<◌}
use native.Mathlib.Nat.{le_of_suc-le-suc, not-suc-le-zero}
use mathlib.Core.Path.{sym, subst}
use mathlib.Core.List.{List, [], ◌∷◌}
use lib.Dec.{T}
use lib.ListN.{length, get_or}
use lib.Ieee.{Float, nan, Format, fits}
use mir.Val.{Val}
use denote.Array.{Array, each}
use denote.Floats.{FloatOf, passes}
use denote.Laws.{Is}
use denote.Shadow.{shadow}

each_fits : (f : Format) (xs : List Float) (us : List Val) → shadow (each Float (FloatOf f).own_val xs us) → (k : ℕ) → k < length xs → T (fits f (get_or xs k nan))
each_fits f [] us h k below = absurd (not-suc-le-zero below)
each_fits f (x ∷ xs) [] h k below = absurd h
each_fits f (x ∷ xs) (u ∷ us) h zero below = passes (fits f x) h.0.1
each_fits f (x ∷ xs) (u ∷ us) h (suc k) below = each_fits f xs us h.1 k (le_of_suc-le-suc below)

-- of an array by value
pub array_fits : (f : Format) (n : ℕ) (xs : List Float) (vs : List Val) → Is (Array (FloatOf f) n) xs vs → (k : ℕ) → k < n → T (fits f (get_or xs k nan))
array_fits f n xs vs known k below = each_fits f xs known.0 known.1.1 k (subst (λ (m : ℕ). k < m) (sym known.1.0.1) below)
