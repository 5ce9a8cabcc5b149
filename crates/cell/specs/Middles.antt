-- The nodes that a refined cell names: each is the middle of some of its corners. Definitions only.
use Rattle.std.specs.Prelude.{ℕ, ◌*◌, ◌^◌, Bool, List, eqb, length}
use Rattle.numbers.specs.Rule.{all, sum_over, place_of}

-- where corners stand on each axis, in whole numbers, is a cell's own: `at k i`
module _ (at : ℕ → ℕ → ℕ) where
  -- the middle of some corners on axis i is this sum over their number
  abbrev pub sum_on : List ℕ → ℕ → ℕ
  sum_on cs i = sum_over (λ (k : ℕ). at k i) cs

  -- two lists of corners have one middle: on each axis their sums over their numbers are equal, multiplied out
  abbrev pub same_middle : List ℕ → List ℕ → Bool
  same_middle cs ds = all 3 (λ (i : ℕ). eqb (sum_on cs i * length ds) (sum_on ds i * length cs))

  -- which of these nodes, each given by the corners whose middle it is, stands in the middle of cs; where none does, how many there are
  abbrev pub node_at : List (List ℕ) → List ℕ → ℕ
  node_at nodes cs = place_of same_middle nodes cs

-- what is named where no node stands: no number of 32 bits
abbrev pub nowhere : ℕ
nowhere = 2 ^ 32
