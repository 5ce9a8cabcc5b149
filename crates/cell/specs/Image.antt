-- What a cell of n corners makes of its corners: the image of a place and its slope. Definitions only.
use Rattle.std.specs.Prelude.{ℕ, zero, suc, ◌+◌, ◌*◌, cond, List, [], ◌∷◌, ltb, Float, get_or, set}
use Rattle.numbers.specs.Rule.{tabulate, grid, fold_to}
use Rattle.binary64.specs.Binary64.{◌⊕◌, ◌⊗◌, ◌!◌, f0}

-- three floats a corner, flat: axis i of corner k
abbrev pub corner : List Float → ℕ → ℕ → Float
corner p k i = p ! (3 * k + i)

-- f 0 ⊕ f 1 ⊕ .. ⊕ f (n - 1), from the left
abbrev pub sum : ℕ → (ℕ → Float) → Float
sum zero f = f0
sum (suc n) f = fold_to (λ (a x : Float). a ⊕ x) (f 0) n (λ (k : ℕ). f (suc k))

-- "the eight products shape value times corner, added in node order, as in the Newton step": n of them here
abbrev pub image_on : ℕ → List Float → List Float → ℕ → Float
image_on n shape p i = sum n (λ (k : ℕ). shape ! k ⊗ corner p k i)

abbrev pub image : ℕ → List Float → List Float → List Float
image n shape p = tabulate 3 (image_on n shape p)

-- the slope of axis i of the image along coordinate j: corner times slope, added to plus zero in node order
abbrev pub jacobian_on : ℕ → List Float → List Float → ℕ → ℕ → Float
jacobian_on n p slopes i j = fold_to (λ (a x : Float). a ⊕ x) f0 n (λ (k : ℕ). corner p k i ⊗ corner slopes k j)

-- row by row
abbrev pub jacobian : ℕ → List Float → List Float → List Float
jacobian n p slopes = grid 3 3 (jacobian_on n p slopes)

-- three rows of three floats, one behind another
abbrev pub row_by_row : List Float → List Float → List Float → List Float
row_by_row x y z = grid 3 3 (λ (i j : ℕ). get_or (x ∷ y ∷ z ∷ []) i [] ! j)

-- three rows of three floats with x stored for row i, where there is one: float j of it at 3 i + j
abbrev pub with_row : List Float → ℕ → List Float → List Float
with_row m i x = cond (ltb i 3) (fold_to (λ (l : List Float) (j : ℕ). set l (3 * i + j) (x ! j)) m 3 (λ (j : ℕ). j)) m
