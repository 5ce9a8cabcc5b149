-- What the report's private functions give: the steps of a cell's volume and how large each is, so that none leaves 64 bits. Definitions only.
use Rattle.std.specs.Prelude.{ℕ, ◌+◌, ◌*◌, ◌≤◌, ◌<◌, ◌≡◌, List, ℤ, pos, length, get_or}
use Rattle.integers.specs.Sizes.{Within, EachWithin}

-- number k of a list, as a coordinate of corner k
abbrev pub at : List ℤ → ℕ → ℤ
at x k = get_or x k (pos 0)

-- three differences of corners on the grid: twice the grid's width of 2,048, and the width
pub record Row (a b c : ℤ) : Type 0 where
  pub twist : Within 4096 a
  pub far : Within 2048 b
  pub near : Within 2048 c

-- a determinant of three such rows has six products of 4,096, 2,048 and 2,048, and a cell's volume is 18 times three of them
abbrev pub most_part : ℕ
most_part = 6 * (4096 * (2048 * 2048))

abbrev pub most_volume : ℕ
most_volume = 18 * (3 * most_part)

pub record Part (z r : ℤ) : Type 0 where
  pub is : r ≡ z
  pub small : Within most_part r

-- numbers on the grid, three for each node that the cells name
pub record OnGrid (numbers : List ℤ) (cells : List ℕ) : Type 0 where
  pub small : EachWithin 1024 numbers
  pub named : (j : ℕ) → j < length cells → 3 * get_or cells j 0 + 3 ≤ length numbers
