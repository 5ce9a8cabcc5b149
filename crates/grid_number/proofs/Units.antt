-- A finite float is a grid number by how many units it has. Assumes nothing.
use Prim.Native.Nat.{ℕ, ◌*◌, ◌/◌, ◌%◌, ◌<◌, ◌≤◌}
use native.Mathlib.Nat.{div-add-mod', lt_of_mul-lt-mul_right}
use native.Mathlib.Omega.{arith}
use mathlib.Core.Path.{◌≡◌, refl}
use mathlib.Core.Bool.{Bool, true, false, ◌&&◌, cond}
use lib.Dec.{eqb, leb}
use lib.IntN.{ℤ}
use lib.Ieee.{Float, binary64}
use lib.Ieee.Scale.{finite}
use borrow.Author.Tests.{eqb-true, eqb-false, eq-eqb, ne_eqb, le-leb, lt-leb}
use Rattle.numbers.proofs.Tests.{is_true}
use Rattle.answer.specs.Answer.{Answer, answered, refused}
use Rattle.binary64.specs.Exact.{one}
use Rattle.rounding.proofs.Units.{Is}
use Rattle.grid_number.specs.Grid.{with_sign, grid_number}

abbrev pub by_units : ℕ → Bool → ℕ → Answer ℤ
by_units w s n = cond (eqb (n % w) 0 && leb (n / w) 1024) (answered (with_sign s (n / w))) (refused 15)

pub by_units_lem : (x : Float) (s : Bool) (n : ℕ) → Is binary64 x s n → grid_number x ≡ by_units one s n
unfolding grid_number
by_units_lem x s n is = rw (is_true (finite x) is.is_finite, is.sign, is.units)

-- some part of one is left over
pub left_over_some : (w : ℕ) (s : Bool) (n : ℕ) → (n % w ≡ 0 → ⊥) → by_units w s n ≡ refused 15
left_over_some w s n some = rw (ne_eqb (n % w) 0 some)

-- over 1,024
too_large : (w : ℕ) (s : Bool) (n : ℕ) → 1024 < n / w → by_units w s n ≡ refused 15
too_large w s n more = rw (lt-leb (n / w) 1024 more) (by (eqb (n % w) 0))
  where
    by : (b : Bool) → cond (b && false) (answered (with_sign s (n / w))) (refused 15) ≡ refused 15
    by true = refl
    by false = refl

pub over : (w : ℕ) (s : Bool) (n : ℕ) → 1024 * w < n → by_units w s n ≡ refused 15
over w s n more = by (eqb (n % w) 0) refl
  where
    by : (b : Bool) → eqb (n % w) 0 ≡ b → by_units w s n ≡ refused 15
    by true none = too_large w s n (lt_of_mul-lt-mul_right w (omega (arith, more, div-add-mod' n w, eqb-true (n % w) 0 none)))
    by false some = left_over_some w s n (eqb-false (n % w) 0 some)

pub whole_small : (w : ℕ) (s : Bool) (n : ℕ) → n % w ≡ 0 → n / w ≤ 1024 → by_units w s n ≡ answered (with_sign s (n / w))
whole_small w s n none few = rw (eq-eqb (n % w) 0 none, le-leb (n / w) 1024 few)
