-- The shape values of a cell of n corners and their slopes as lists, each by the cell's own rule over the corner, and what they owe the corners.
-- Definitions only.
use Rattle.std.specs.Prelude.{ℕ, ◌<◌, ◌≡◌, cond, List, [], eqb, Float, get_or}
use Rattle.numbers.specs.Rule.{tabulate, grid}
use Rattle.binary64.specs.Binary64.{f0, f1}

module _ (n : ℕ) where
  -- at the place q a value for each corner: `value q k` is that of corner k
  abbrev pub values_by : (List Float → ℕ → Float) → List Float → List Float
  values_by value q = tabulate n (value q)

  -- and three slopes a corner, corner by corner: `slope q k j` is that of corner k along axis j
  abbrev pub slopes_by : (List Float → ℕ → ℕ → Float) → List Float → List Float
  slopes_by slope q = grid n 3 (slope q)

  -- one for corner k, plus zero for the others
  abbrev pub one_at : ℕ → List Float
  one_at k = tabulate n (λ (j : ℕ). cond (eqb j k) f1 f0)

  -- Of the place of corner k: "There, shape value k is exactly 1 and the other seven are plus zero. The six prism corners .. behave alike."
  abbrev pub OneAtItsCorner : (List Float → List Float) → List (List Float) → Type 0
  OneAtItsCorner shape places = (k : ℕ) → k < n → shape (get_or places k []) ≡ one_at k
