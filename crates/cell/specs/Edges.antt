-- What a table of edges owes a cell. Definitions only.
use Rattle.std.specs.Prelude.{ℕ, ◌<◌, ◌≡◌, Bool, cond, ◌&&◌, ◌||◌, List, [], T, eqb, ltb, length, get_or}
use Rattle.numbers.specs.Rule.{count}

-- end s of edge e of a table of pairs
abbrev pub end : List (List ℕ) → ℕ → ℕ → ℕ
end edges e s = get_or (get_or edges e []) s 0

-- edge e joins a and b, either way round
abbrev pub joins : List (List ℕ) → ℕ → ℕ → ℕ → Bool
joins edges a b e = eqb (end edges e 0) a && eqb (end edges e 1) b || eqb (end edges e 0) b && eqb (end edges e 1) a

-- Every row is a pair of joined corners, and every pair of joined corners of the n has one row.
pub record EdgeTable (n : ℕ) (joined : ℕ → ℕ → Bool) (edges : List (List ℕ)) : Type 0 where
  pub corners : (e : ℕ) → e < length edges → T (ltb (end edges e 0) n && ltb (end edges e 1) n)
  pub once : (a b : ℕ) → a < n → b < n → count (length edges) (joins edges a b) ≡ cond (joined a b) 1 0
