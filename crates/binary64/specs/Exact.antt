-- The exact value of a finite float: a whole number of units of 2 ^ -1074, the smallest positive float. Definitions only.
use Rattle.std.specs.Prelude.{ℕ, ◌*◌, ◌/◌, ◌^◌, Bool, false, cond, ℤ, pos, neg_ℤ, Float}
use Rattle.std.specs.Float.{nan, inf, fin, Format, binary64}
use Rattle.std.specs.Float.Ieee.{low, up, down}

-- The size of m * 2 ^ e in units of the format's smallest positive float, 2 ^ -low: m * 2 ^ e * 2 ^ low, with `up e / down e` for 2 ^ e. The division leaves
-- nothing over, since no float has a part below a unit. A NaN and an infinity have no value: 0 stands there, and nothing is claimed of it.
unfoldable pub size_in : Format → Float → ℕ
size_in f nan = 0
size_in f (inf s) = 0
size_in f (fin s m e) = m * up e * 2 ^ low f / down e

unfoldable pub is_negative : Float → Bool
is_negative nan = false
is_negative (inf s) = s
is_negative (fin s m e) = s

-- binary64's `low` is 1074: the size in units of 2 ^ -1074, and the value with its sign
abbrev pub size : Float → ℕ
size x = size_in binary64 x

abbrev pub units : Float → ℤ
units x = cond (is_negative x) (neg_ℤ (pos (size x))) (pos (size x))

-- one is 2 ^ 1074 units
abbrev pub one : ℕ
one = 2 ^ 1074
