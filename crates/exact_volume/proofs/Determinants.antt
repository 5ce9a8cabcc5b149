-- 216 times the volume is 18 times the sum of three determinants: both are multiplied out over 24 unknown coordinates, and their terms cancel. Assumes nothing.
use Prim.Native.Nat.{ℕ, ◌<◌}
use mathlib.Core.Path.{◌≡◌, sym, ◌∙◌}
use mathlib.Core.List.{List, []}
use lib.IntN.{ℤ, pos}
use lib.ListN.{get_or}
use Rattle.numbers.specs.Rule.{tabulate}
use Rattle.numbers.proofs.Prefix.{tabulate_where}
use Rattle.integers.proofs.Expression.{expressions}
use Rattle.integers.proofs.Solve.{solve}
use Rattle.exact_volume.specs.Volume.{volume_in, volume216}
use Rattle.exact_volume.specs.Determinants.{by_determinants, ThreeDeterminants}
use Rattle.exact_volume.proofs.Corners.{numeral, X, Y, Z, corners}

pub three_determinants : ThreeDeterminants
unfolding volume216
three_determinants x y z = solve (corners x y z []) (volume_in expressions numeral X Y Z) (by_determinants expressions numeral X Y Z) tt

-- so that it goes by the eight corners alone
pub corners_alone : (x y z : ℕ → ℤ)
    → volume216 (λ (k : ℕ). get_or (tabulate 8 x) k (pos 0)) (λ (k : ℕ). get_or (tabulate 8 y) k (pos 0)) (λ (k : ℕ). get_or (tabulate 8 z) k (pos 0))
    ≡ volume216 x y z
corners_alone x y z = three_determinants _ _ _ ∙ sym (three_determinants x y z)

pub same_corners : {x y z x' y' z' : ℕ → ℤ} → ((k : ℕ) → k < 8 → x k ≡ x' k) → ((k : ℕ) → k < 8 → y k ≡ y' k) → ((k : ℕ) → k < 8 → z k ≡ z' k)
    → volume216 x y z ≡ volume216 x' y' z'
same_corners {x} {y} {z} {x'} {y'} {z'} hx hy hz =
    let at : List ℤ → ℕ → ℤ = λ l k. get_or l k (pos 0) in
    sym (corners_alone x y z)
    ∙ (λ i. volume216 (at (tabulate_where 8 x x' hx i)) (at (tabulate_where 8 y y' hy i)) (at (tabulate_where 8 z z' hz i)))
    ∙ corners_alone x' y' z'
