-- The cube: its corners by their signs, and the tables of its edges and faces. Definitions and claims only.
use Rattle.std.specs.Prelude.{ℕ, ◌+◌, ◌*◌, ◌/◌, ◌%◌, ◌<◌, ◌≡◌, Bool, true, false, cond, List, [], ◌∷◌, T, eqb, Float, get_or}
use Rattle.std.specs.Bool.{beq}
use Rattle.std.specs.Float.Ieee.{unlike}
use Rattle.numbers.specs.Rule.{tabulate, count, all}
use Rattle.binary64.specs.Binary64.{f1, m1}
use Rattle.cell.specs.Edges.{EdgeTable}

-- "A corner k of the cube stands at `HEX_SIGN[k]`": xyz, Xyz, XYz, xYz, xyZ, XyZ, XYZ, xYZ, where a capital, true here, is plus one
abbrev pub signs : List (List Bool)
signs =
    (false ∷ false ∷ false ∷ [])
    ∷ (true ∷ false ∷ false ∷ [])
    ∷ (true ∷ true ∷ false ∷ [])
    ∷ (false ∷ true ∷ false ∷ [])
    ∷ (false ∷ false ∷ true ∷ [])
    ∷ (true ∷ false ∷ true ∷ [])
    ∷ (true ∷ true ∷ true ∷ [])
    ∷ (false ∷ true ∷ true ∷ [])
    ∷ []

-- whether corner k lies on the upper side of axis i
abbrev pub upper : ℕ → ℕ → Bool
upper k i = get_or (get_or signs k []) i false

-- `HEX_SIGN`
abbrev pub hex_sign : List (List Float)
hex_sign = tabulate 8 (λ (k : ℕ). tabulate 3 (λ (i : ℕ). cond (upper k i) f1 m1))

-- `EDGE2NODE`: the bottom ring, the top ring, then upward
abbrev pub edges : List (List ℕ)
edges =
    (0 ∷ 1 ∷ []) ∷ (1 ∷ 2 ∷ []) ∷ (2 ∷ 3 ∷ []) ∷ (3 ∷ 0 ∷ [])
    ∷ (4 ∷ 5 ∷ []) ∷ (5 ∷ 6 ∷ []) ∷ (6 ∷ 7 ∷ []) ∷ (7 ∷ 4 ∷ [])
    ∷ (0 ∷ 4 ∷ []) ∷ (1 ∷ 5 ∷ []) ∷ (2 ∷ 6 ∷ []) ∷ (3 ∷ 7 ∷ []) ∷ []

-- two corners are the ends of an edge where their signs differ on exactly one axis
abbrev pub joined : ℕ → ℕ → Bool
joined a b = eqb (count 3 (λ (i : ℕ). unlike (upper a i) (upper b i))) 1

-- `EDGE2NODE` lists every pair of corners that differ in one step, once.
abbrev pub EdgesOfTheCube : Type 0
EdgesOfTheCube = EdgeTable 8 joined edges

-- `IDX2NODE`: "Faces follow `IDX2NODE`, four at a time"
abbrev pub idx2node : List ℕ
idx2node = 0 ∷ 3 ∷ 2 ∷ 1 ∷ 0 ∷ 1 ∷ 5 ∷ 4 ∷ 1 ∷ 2 ∷ 6 ∷ 5 ∷ 2 ∷ 3 ∷ 7 ∷ 6 ∷ 3 ∷ 0 ∷ 4 ∷ 7 ∷ 4 ∷ 5 ∷ 6 ∷ 7 ∷ []

-- node j of the ring of face f; behind the last comes the first
abbrev pub ring : ℕ → ℕ → ℕ
ring f j = get_or idx2node (4 * f + j % 4) 0

-- the six sides: 2 i is the lower side of axis i, and 2 i + 1 its upper side
abbrev pub on_side : ℕ → ℕ → Bool
on_side s k = beq (upper k (s / 2)) (eqb (s % 2) 1)

-- face f is side s: its ring holds each corner of the side once, and no other corner
abbrev pub is_side : ℕ → ℕ → Bool
is_side s f = all 8 (λ (k : ℕ). eqb (count 4 (λ (j : ℕ). eqb (ring f j) k)) (cond (on_side s k) 1 0))

-- `IDX2NODE`'s six faces are the six sides, as rings whose neighbours are edges.
pub record FacesOfTheCube : Type 0 where
  pub sides : (s : ℕ) → s < 6 → count 6 (is_side s) ≡ 1
  pub rings : (f j : ℕ) → f < 6 → j < 4 → T (joined (ring f j) (ring f (j + 1)))
