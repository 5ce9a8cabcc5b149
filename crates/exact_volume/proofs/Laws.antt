-- The laws of the exact volume, each by one computed test on the three determinants. Assumes nothing.
use Prim.Native.Nat.{ℕ, ◌+◌, ◌*◌, ◌/◌, ◌<◌}
use native.Mathlib.Omega.{arith}
use mathlib.Core.Path.{sym, ◌∙◌, ap}
use mathlib.Core.Bool.{Bool}
use mathlib.Core.List.{[], ◌∷◌}
use lib.Dec.{eqb, eqb→eq}
use lib.IntN.{ℤ, neg_ℤ, ◌*ℤ◌}
use Rattle.numbers.specs.Rule.{all}
use Rattle.numbers.proofs.Tests.{all_at}
use Rattle.integers.proofs.Expression.{Expression, var, ◌⊞◌, ◌⊠◌, minus, expressions}
use Rattle.integers.proofs.Solve.{solve}
use Rattle.exact_volume.specs.Determinants.{by_determinants}
use Rattle.exact_volume.specs.Laws.{box_corner, WeightsWhole, BoxVolume, MovedVolume, MirroredVolume, ScaledVolume}
use Rattle.exact_volume.proofs.Corners.{numeral, X, Y, Z, corners}
use Rattle.exact_volume.proofs.Determinants.{three_determinants}

-- each of three powers is 0, 1 or 2
abbrev whole : ℕ → ℕ → ℕ → Bool
whole a b c = eqb (216 / ((a + 1) * (b + 1) * (c + 1)) * ((a + 1) * (b + 1) * (c + 1))) 216

pub weights_whole : WeightsWhole
weights_whole powers small =
    let below : (i : ℕ) → i < 3 → powers i < 3 = λ i h. omega (arith, small i h) in
    let first = all_at 3 (λ (a : ℕ). all 3 (λ (b : ℕ). all 3 (whole a b))) tt (powers 0) (below 0 (omega arith)) in
    let second = all_at 3 (λ (b : ℕ). all 3 (whole (powers 0) b)) first (powers 1) (below 1 (omega arith)) in
    eqb→eq _ 216 (all_at 3 (whole (powers 0) (powers 1)) second (powers 2) (below 2 (omega arith)))

-- the three determinants of unknown corners
abbrev of : (x y z : ℕ → Expression) → Expression
of x y z = by_determinants expressions numeral x y z

pub box_volume : BoxVolume
box_volume p q u a b c =
    three_determinants _ _ _
    ∙ solve (p ∷ q ∷ u ∷ a ∷ b ∷ c ∷ [])
    (of (box_corner expressions 0 (var 0) (var 3)) (box_corner expressions 1 (var 1) (var 4)) (box_corner expressions 2 (var 2) (var 5)))
    (numeral 216 ⊠ (var 3 ⊠ (var 4 ⊠ var 5)))
    tt

pub moved_volume : MovedVolume
moved_volume x y z a b c =
    three_determinants _ _ _
    ∙ solve (corners x y z (a ∷ b ∷ c ∷ [])) (of (λ (k : ℕ). X k ⊞ var 24) (λ (k : ℕ). Y k ⊞ var 25) (λ (k : ℕ). Z k ⊞ var 26)) (of X Y Z) tt
    ∙ sym (three_determinants x y z)

pub mirrored_volume : MirroredVolume
mirrored_volume =
    record {
      first_two = λ x y z.
          three_determinants y x z ∙ solve (corners x y z []) (of Y X Z) (minus (of X Y Z)) tt ∙ ap neg_ℤ (sym (three_determinants x y z));
      last_two = λ x y z.
          three_determinants x z y ∙ solve (corners x y z []) (of X Z Y) (minus (of X Y Z)) tt ∙ ap neg_ℤ (sym (three_determinants x y z));
      outer_two = λ x y z.
          three_determinants z y x ∙ solve (corners x y z []) (of Z Y X) (minus (of X Y Z)) tt ∙ ap neg_ℤ (sym (three_determinants x y z));
    }

pub scaled_volume : ScaledVolume
scaled_volume x y z m =
    three_determinants _ _ _
    ∙ solve (corners x y z (m ∷ []))
    (of (λ (k : ℕ). var 24 ⊠ X k) (λ (k : ℕ). var 24 ⊠ Y k) (λ (k : ℕ). var 24 ⊠ Z k))
    (var 24 ⊠ (var 24 ⊠ (var 24 ⊠ of X Y Z)))
    tt
    ∙ ap (λ (v : ℤ). m *ℤ (m *ℤ (m *ℤ v))) (sym (three_determinants x y z))
