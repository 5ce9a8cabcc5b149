-- binary64 with Rust's operator signs in circles. Each is the kit's operation of IEEE 754, rounded once to nearest, ties to even. Definitions only.
use Rattle.std.specs.Prelude.{ℕ, Bool, List, get_or, Float}
use Rattle.std.specs.Float.Ieee as Ieee
use Rattle.std.specs.Float.{nan, binary64}
use Rattle.numbers.specs.Arithmetic.{Arithmetic}

infixl 75 ◌⊕◌
infixl 75 ◌⊖◌
infixl 80 ◌⊗◌
infixl 80 ◌⊘◌
infixl 90 ◌!◌
abbrev pub ◌⊕◌ : Float → Float → Float
◌⊕◌ x y = Ieee.add binary64 x y

abbrev pub ◌⊖◌ : Float → Float → Float
◌⊖◌ x y = Ieee.sub binary64 x y

abbrev pub ◌⊗◌ : Float → Float → Float
◌⊗◌ x y = Ieee.mul binary64 x y

abbrev pub ◌⊘◌ : Float → Float → Float
◌⊘◌ x y = Ieee.div binary64 x y

-- plus zero, one, and two as the source makes it
abbrev pub f0 : Float
f0 = Ieee.of_bits binary64 0

abbrev pub f1 : Float
f1 = Ieee.of_bits binary64 0x3ff0_0000_0000_0000

abbrev pub f2 : Float
f2 = f1 ⊕ f1

-- minus one, and plus infinity
abbrev pub m1 : Float
m1 = Ieee.of_bits binary64 0xbff0_0000_0000_0000

abbrev pub infinity : Float
infinity = f1 ⊘ f0

-- float k of a flat list
abbrev pub ◌!◌ : List Float → ℕ → Float
◌!◌ l k = get_or l k nan

-- "plus or minus zero, never for NaN or infinity"
abbrev pub is_zero : Float → Bool
is_zero x = Ieee.eq x f0

-- these as an arithmetic, for formulas that are read in whole numbers too
abbrev pub floats : Arithmetic Float
floats = record { zero = f0; one = f1; neg = Ieee.neg; ◌⊕◌ = ◌⊕◌; ◌⊖◌ = ◌⊖◌; ◌⊗◌ = ◌⊗◌; ◌!◌ = ◌!◌ }
