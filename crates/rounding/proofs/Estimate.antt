-- What is known of a rounded value: the exact one that it stands for, and how many roundings lie between the two. Assumes nothing.
use Prim.Native.Nat.{ℕ, suc, ◌+◌, ◌*◌, ◌^◌, ◌≤◌}
use mathlib.Core.Path.{◌≡◌}
use mathlib.Core.Bool.{Bool}
use lib.Ieee.{Float, Format, prec, low}
use Rattle.binary64.specs.Exact.{size_in, is_negative}
use Rattle.rounding.proofs.Within.{Within}
use Rattle.rounding.proofs.Units.{Held, plus, minus}

-- What a value is counted in: parts of a unit of the format, of which `whole` make one. With B = 2 ^ prec a rounding moves a value by at most one part in B of
-- it, and is charged `spare` parts in B * B more, for what the roundings make together.
pub record Scale : Type 0 where
  pub format : Format
  pub spare : ℕ
  pub whole : ℕ

-- the same but for the parts
abbrev pub over : Scale → ℕ → Scale
over s d = record { format = s.format; spare = s.spare; whole = d }

-- B, for the finest parts
abbrev pub fine : Scale → ℕ
fine s = 2 ^ prec s.format

-- what j roundings are charged, in parts in B * B
abbrev pub cost : Scale → ℕ → ℕ
cost s j = j * (fine s + s.spare)

-- ---- a size: `exact` parts, but for so many roundings of `bound` parts. The bound may be larger than what is exact, where a rounding is not small beside the
-- value: in a difference, or below the normal range.
pub record Estimate : Type 0 where
  pub exact : ℕ
  pub bound : ℕ
  pub roundings : ℕ

pub record Sized (s : Scale) (x : Float) (e : Estimate) : Type 0 where
  pub held : Held s.format x
  pub close : Within (size_in s.format x * s.whole * (fine s * fine s)) (e.exact * (fine s * fine s)) (cost s e.roundings * e.bound)
  pub bounded : e.exact ≤ e.bound

-- with its sign
pub record Times (s : Scale) (x : Float) (sign : Bool) (e : Estimate) : Type 0 where
  pub sized : Sized s x e
  pub sign_is : is_negative x ≡ sign

-- The product of two sizes is rounded once more, and counted in parts of a square unit.
abbrev pub times : Estimate → Estimate → Estimate
times a b = record { exact = a.exact * b.exact; bound = a.bound * b.bound; roundings = suc (a.roundings + b.roundings) }

abbrev pub square : Scale → ℕ → Scale
square s d = over s (s.whole * d * 2 ^ low s.format)

-- ---- a signed value: `up` parts less `down` parts, but for so many roundings of `bound` parts
pub record Signed : Type 0 where
  pub up : ℕ
  pub down : ℕ
  pub bound : ℕ
  pub roundings : ℕ

pub record Near (s : Scale) (x : Float) (e : Signed) : Type 0 where
  pub held : Held s.format x
  pub close :
      Within ((plus s.format x * s.whole + e.down) * (fine s * fine s)) ((minus s.format x * s.whole + e.up) * (fine s * fine s))
      (cost s e.roundings * e.bound)
  pub bounded : e.up + e.down ≤ e.bound
