-- Where a corner of a descendant stands: document 01, "Descendant". Definitions and claims only.
use Rattle.std.specs.Prelude.{ℕ, zero, suc, pred, ◌-◌, ◌^◌, ◌≡◌, Bool, ◌&&◌, cond, List, [], ◌∷◌, ◌++◌, ltb, ℤ, pos, negsuc, ◌+ℤ◌, ◌*ℤ◌, length, get_or}
use Rattle.numbers.specs.Rule.{tabulate, all}
use Rattle.answer.specs.Answer.{Answer, answered, refused}
use Rattle.hexahedron.specs.Cube.{upper}

-- the sign of corner or octant k on axis i, as `HEX_SIGN` has it
unfoldable pub sign : ℕ → ℕ → ℤ
sign k i = cond (upper k i) (pos 1) (negsuc 0)

-- the octants of a path are counted from 1
abbrev pub octant : List ℕ → ℕ → ℕ
octant path j = get_or path (pred j) 0

-- f 1 + f 2 + .. + f n
abbrev pub sum : ℕ → (ℕ → ℤ) → ℤ
sum zero f = pos 0
sum (suc n) f = f 1 +ℤ sum n (λ (j : ℕ). f (suc j))

-- "on each axis, in units of 2^-d, the sum over j = 1..d of sign(octant j) times 2^(d-j), plus sign(k)"
unfoldable pub place : List ℕ → ℕ → ℕ → ℤ
place path k i = sum (length path) (λ (j : ℕ). sign (octant path j) i *ℤ pos (2 ^ (length path - j))) +ℤ sign k i

-- 9 is for "an octant, corner .. number out of range"
abbrev pub octants : List ℕ → Bool
octants path = all (length path) (λ (j : ℕ). ltb (get_or path j 0) 8)

-- "Descendant: 7, 9": over "depth 20", then a number out of range, and otherwise the place on the three axes
unfoldable pub descended : List ℕ → ℕ → Answer (List ℤ)
descended path k =
    cond (ltb 20 (length path)) (refused 7) (cond (octants path && ltb k 8) (answered (tabulate 3 (place path k))) (refused 9))

-- "The place of a deeper child follows from its parent's by the same rule, one level less."
pub record PlacesFollow : Type 0 where
  -- down the path: the first octant's share, and the place along the rest of the path
  pub along : (o k i : ℕ) (rest : List ℕ) → place (o ∷ rest) k i ≡ sign o i *ℤ pos (2 ^ length rest) +ℤ place rest k i
  -- at its end: corner k of child o stands in the middle of the parent's corners o and k, as in `subdivide`; the unit is halved
  pub deeper : (path : List ℕ) (o k i : ℕ) → place (path ++ (o ∷ [])) k i ≡ place path o i +ℤ place path k i
