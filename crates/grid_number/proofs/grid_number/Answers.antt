-- `grid_number::grid_number` meets its contract: a float that is rounded to a whole number and stays the same is one. Assumes nothing.
use Prim.Native.Nat.{ℕ, ◌%◌, ◌^◌, ◌≤◌}
use native.Mathlib.Nat.{le_trans}
use native.Mathlib.Omega.{arith}
use mathlib.Core.Path.{◌≡◌, sym, ◌∙◌, ap, subst⁻¹}
use mathlib.Core.Bool.{Bool, true, false, not}
use lib.Dec.{T, lit≤}
use lib.Ieee.{Float, binary64, of_bits, nan_bits, eq, to_signed, in_signed}
use lib.Ieee.Bits.{of_bits-fits, nan_bits_above}
use lib.Ieee.Casts.{to_signed_in}
use borrow.Author.Tests.{le-ltb}
use mir.Syntax.{w64}
use mir.Val.{to_z, of_z}
use mir.Facts.{to_z-of_z}
use Rattle.answer.specs.Answer.{answered, refused}
use Rattle.rounding.proofs.Units.{Held}
use Rattle.grid_number.specs.Grid.{grid_number}
use Rattle.grid_number.proofs.Word.{limit, small, of_more}
use Rattle.grid_number.proofs.Rounded.{rounded, fits_cast, equal, unequal}
use Rattle.grid_number.proofs.grid_number.Goals as goal

-- a word that the first test lets through
module _ (word : ℕ) (few : word % 2 ^ 63 ≤ limit) where
  abbrev float : Float
  float = of_bits binary64 word

  no_nan : T (not (nan_bits binary64 word))
  no_nan = subst⁻¹ (λ (b : Bool). T (not b)) (nan_bits_above binary64 word ∙ le-ltb _ _ (le_trans few (lit≤ tt))) tt

  held : Held binary64 float
  held = record { in_format = of_bits-fits binary64 word; is_finite = (small word few).is_finite }

  castable : T (in_signed binary64 63 (rounded float))
  castable = fits_cast float held (small word few).few

  whole : eq (rounded float) float ≡ true → answered (to_z w64 (of_z w64 (to_signed 63 (rounded float)))) ≡ grid_number float
  whole e = ap answered (to_z-of_z {w = w64} (record { sfits = to_signed_in 63 (rounded float) })) ∙ sym (equal float held (small word few).few e)

  broken : eq (rounded float) float ≡ false → refused 15 ≡ grid_number float
  broken e = sym (unequal float held (small word few).few e)

pub returns-then-rounded-x : goal.returns-then-rounded-x
unfolding of_bits
returns-then-rounded-x c = whole c.args.word c.if-word-gt-LIMIT.false c.if-rounded-x.true

pub returns-then-word-gt-LIMIT : goal.returns-then-word-gt-LIMIT
returns-then-word-gt-LIMIT c = sym (of_more c.args.word (omega (arith, c.if-word-gt-LIMIT.true)))

pub float_from_bits-x : goal.float_from_bits-x
float_from_bits-x c = no_nan c.args.word c.if-word-gt-LIMIT.false

pub float_to_int-number : goal.float_to_int-number
unfolding of_bits
float_to_int-number c = castable c.args.word c.if-word-gt-LIMIT.false

pub returns : goal.returns
unfolding of_bits
returns c = broken c.args.word c.if-word-gt-LIMIT.false c.if-rounded-x.false
