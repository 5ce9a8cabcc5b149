-- The constants compute to what is claimed of them, and a finite float equals plus zero exactly where its size is none. Assumes nothing.
use Prim.Native.Nat.{ℕ, zero, suc, ◌*◌, ◌<◌}
use native.Mathlib.Nat.{zero-mul, mul-one, mul-pos, zero-lt-suc}
use native.Mathlib.Omega.{arith}
use mathlib.Core.Path.{◌≡◌, refl, ◌∙◌}
use mathlib.Core.Bool.{Bool, true, false, ◌&&◌, ◌||◌, or-true, beq}
use borrow.Author.Tests.{ne_eqb}
use lib.Dec.{eqb, eqb-suc-zero}
use lib.Ieee.{fin, nan, up, down, add, div, eq, lt, of_bits}
use lib.Ieee.Fits.{up_pos}
use lib.IntN.{ℤ}
use Rattle.binary64.specs.Binary64.{is_zero}
use Rattle.binary64.specs.Exact.{size_in, is_negative}
use Rattle.binary64.specs.Constants.{ConstantsAreExact, ZerosAlone}

pub constants_are_exact : ConstantsAreExact
unfolding add div of_bits size_in is_negative
constants_are_exact = record { plus_zero = refl; plus_one = refl; two = refl; minus_one = refl; plus_infinity = refl }

not_nan : is_zero nan ≡ false
unfolding eq lt of_bits
not_nan = refl

twice : (a b : Bool) → (a && (b || a)) ≡ a
twice true b = or-true b
twice false b = refl

no_size : (m u : ℕ) → 0 < u → eqb (m * u * 1) 0 ≡ eqb m 0
no_size zero u h = rw (zero-mul u)
no_size (suc m) u h =
    let some = mul-pos (zero-lt-suc m) h in
    rw (eqb-suc-zero m) (ne_eqb (suc m * u * 1) 0 (λ e. omega (arith, mul-one (suc m * u))))

finite : (negative : Bool) (m : ℕ) (e : ℤ) → is_zero (fin negative m e) ≡ eqb m 0
unfolding eq of_bits
finite negative m e = rw (zero-mul (down e)) (twice (eqb (m * up e * 1) 0) (beq negative false) ∙ no_size m (up e) (up_pos e))

pub zeros_alone : ZerosAlone
unfolding eq of_bits
zeros_alone = record { not_nan = not_nan; not_infinite = λ negative. refl; finite = finite }
