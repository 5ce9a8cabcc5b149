-- Multiplication commutes in either format: the signs, the sizes and the scales do, and where no number comes out none does either way. Assumes nothing.
use Prim.Native.Nat.{◌*◌}
use native.Mathlib.Nat.{mul_comm}
use mathlib.Core.Path.{◌≡◌, refl}
use mathlib.Core.Bool.{Bool, true, false}
use lib.Ieee.{Float, nan, inf, fin, Format, unlike, up, down, mul}

signs_commute : (s t : Bool) → unlike s t ≡ unlike t s
signs_commute true true = refl
signs_commute true false = refl
signs_commute false true = refl
signs_commute false false = refl

pub mul_commutes : (f : Format) (x y : Float) → mul f x y ≡ mul f y x
unfolding mul
mul_commutes f nan nan = refl
mul_commutes f nan (inf t) = refl
mul_commutes f nan (fin t n d) = refl
mul_commutes f (inf s) nan = refl
mul_commutes f (inf s) (inf t) = rw (signs_commute s t)
mul_commutes f (inf s) (fin t n d) = rw (signs_commute s t)
mul_commutes f (fin s m e) nan = refl
mul_commutes f (fin s m e) (inf t) = rw (signs_commute s t)
mul_commutes f (fin s m e) (fin t n d) = rw (signs_commute s t, mul_comm (m * up e) (n * up d), mul_comm (down e) (down d))
