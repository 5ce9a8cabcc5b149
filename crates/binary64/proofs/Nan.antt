-- A NaN: it alone differs from itself, it is no zero, and what is worked out with it is NaN. Assumes nothing.
use Prim.Native.Nat.{◌*◌}
use mathlib.Core.Path.{◌≡◌, refl, sym, ◌∙◌}
use mathlib.Core.Bool.{true, false}
use borrow.Author.Tests.{eq-eqb}
use lib.Dec.{T}
use lib.Ieee.{Float, nan, inf, fin, up, down, mul, sub, ne, is_nan}
use Rattle.binary64.specs.Binary64.{◌⊖◌, ◌⊗◌, is_zero}
use Rattle.binary64.proofs.Constants.{zeros_alone}

pub is_nan_lem : (x : Float) → T (is_nan x) → x ≡ nan
unfolding is_nan
is_nan_lem nan t = refl
is_nan_lem (inf s) t = absurd t
is_nan_lem (fin s m e) t = absurd t

pub differs_from_itself : (x : Float) → ne x x ≡ is_nan x
unfolding ne is_nan
differs_from_itself nan = refl
differs_from_itself (inf true) = refl
differs_from_itself (inf false) = refl
differs_from_itself (fin true m e) = rw (eq-eqb (m * up e * down e) (m * up e * down e) refl)
differs_from_itself (fin false m e) = rw (eq-eqb (m * up e * down e) (m * up e * down e) refl)

pub zero_is_no_nan : (x : Float) → is_zero x ≡ true → is_nan x ≡ false
unfolding is_nan
zero_is_no_nan nan zero = sym zero ∙ zeros_alone.not_nan
zero_is_no_nan (inf s) zero = refl
zero_is_no_nan (fin s m e) zero = refl

pub times_nan : (x : Float) → x ⊗ nan ≡ nan
unfolding mul
times_nan nan = refl
times_nan (inf s) = refl
times_nan (fin s m e) = refl

pub less_nan : (x : Float) → x ⊖ nan ≡ nan
unfolding sub
less_nan nan = refl
less_nan (inf s) = refl
less_nan (fin s m e) = refl
