-- A value that goes evenly is zero at the position: the terms of both equations cancel. Assumes nothing.
use Prim.Native.Nat.{ℕ, zero, suc}
use mathlib.Core.Path.{◌≡◌, refl}
use mathlib.Core.List.{List, [], ◌∷◌, map}
use lib.IntN.{ℤ, pos, ◌+ℤ◌, ◌*ℤ◌}
use lib.ListN.{get_or}
use Rattle.integers.specs.Integers.{integers}
use Rattle.integers.specs.Fractions.{Fraction, whole, fractions, quotient}
use Rattle.integers.proofs.Expression.{Expression, var, minus, ◌⊞◌, ◌⊠◌, expressions}
use Rattle.integers.proofs.Solve.{solve}
use Rattle.hex_iso_position.specs.Position.{node_in, position_in, ZeroAt, ZeroAtThePosition}

-- on one axis: variable 0 is the center's, 1 and 2 are those of the signs, 3 is the half width, and 4 and 5 are the values
abbrev X : Fraction Expression
X =
    let n : ℕ → Fraction Expression = λ k. whole expressions (var k) in
    position_in (fractions expressions) (quotient expressions) (n 0 ∷ []) (n 3) (n 1 ∷ []) (n 2 ∷ []) (n 4) (n 5) 0

abbrev change : Expression
change = var 5 ⊞ minus (var 4)

abbrev corner : ℕ → Expression
corner s = node_in expressions (var 0 ∷ []) (var 3) (var s ∷ []) 0

on_an_axis : (c s t half_width v w : ℤ)
    → let n = whole integers in
    ZeroAt (s *ℤ half_width +ℤ c) (t *ℤ half_width +ℤ c) v w
    (position_in (fractions integers) (quotient integers) (n c ∷ []) (n half_width) (n s ∷ []) (n t ∷ []) (n v) (n w) 0)
on_an_axis c s t half_width v w =
    let ρ : List ℤ = c ∷ s ∷ t ∷ half_width ∷ v ∷ w ∷ [] in
    record {
      bottom = solve ρ X.bottom (change ⊠ change) tt;
      evenly = solve ρ ((X.top ⊞ minus (corner 1 ⊠ X.bottom)) ⊠ change) (minus (var 4) ⊠ (corner 2 ⊞ minus (corner 1)) ⊠ X.bottom) tt;
    }

whole_at : (l : List ℤ) (i : ℕ) → get_or (map (whole integers) l) i (whole integers (pos 0)) ≡ whole integers (get_or l i (pos 0))
whole_at [] i = refl
whole_at (x ∷ l) zero = refl
whole_at (x ∷ l) (suc i) = whole_at l i

pub zero_at_the_position : ZeroAtThePosition
zero_at_the_position center s t half_width v w i =
    rw (whole_at center i, whole_at s i, whole_at t i)
    (on_an_axis (get_or center i (pos 0)) (get_or s i (pos 0)) (get_or t i (pos 0)) half_width v w)
