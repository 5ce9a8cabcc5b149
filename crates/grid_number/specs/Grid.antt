-- Whole grid numbers: document 02, 3/12, "whole grid numbers of size at most 1,024". Definitions only.
use Rattle.std.specs.Prelude.{ℕ, ◌/◌, ◌%◌, Bool, ◌&&◌, cond, eqb, leb, ℤ, pos, neg_ℤ, Float}
use Rattle.std.specs.Float.Ieee.Scale.{finite}
use Rattle.answer.specs.Answer.{Answer, answered, refused}
use Rattle.binary64.specs.Exact.{size, is_negative, one}

abbrev pub grid_limit : ℕ
grid_limit = 1024

-- finite, a whole number of ones, and of size at most 1,024
abbrev pub is_grid : Float → Bool
is_grid x = finite x && (eqb (size x % one) 0 && leb (size x / one) grid_limit)

-- so many ones, and below zero where the sign is set: "Minus zero counts as 0."
abbrev pub with_sign : Bool → ℕ → ℤ
with_sign negative n = cond negative (neg_ℤ (pos n)) (pos n)

-- "15, a node that isn't such a whole number"
unfoldable pub grid_number : Float → Answer ℤ
grid_number x = cond (is_grid x) (answered (with_sign (is_negative x) (size x / one))) (refused 15)
