-- A cell halved along one axis: twice the corners of a half, and that the two halves hold eight times what the cell holds, by one computed test over the axes.
-- Assumes nothing.
use Prim.Native.Nat.{ℕ, ◌<◌}
use mathlib.Core.Path.{◌≡◌, sym, ◌∙◌, ap, ap₂}
use mathlib.Core.Bool.{Bool, true, false, cond}
use mathlib.Core.List.{[]}
use lib.Dec.{eqb}
use lib.IntN.{ℤ, pos, ◌+ℤ◌, ◌*ℤ◌}
use Rattle.numbers.specs.Rule.{tabulate}
use Rattle.numbers.specs.Arithmetic.{Arithmetic}
use Rattle.numbers.proofs.Tabulate.{tabulate_same}
use Rattle.integers.specs.Integers.{integers}
use Rattle.integers.proofs.Expression.{Expression, ◌⊞◌, ◌⊠◌, expressions}
use Rattle.integers.proofs.Solve.{solve_each}
use Rattle.hexahedron.specs.Cube.{upper}
use Rattle.exact_volume.specs.Volume.{corner_at, volume216}
use Rattle.exact_volume.specs.Determinants.{by_determinants}
use Rattle.exact_volume.proofs.Corners.{numeral, X, Y, Z, corners}
use Rattle.exact_volume.proofs.Determinants.{three_determinants}

-- corner k, moved to side p of axis j
abbrev moved : ℕ → Bool → ℕ → ℕ
moved j p k =
    let side : ℕ → Bool = λ i. cond (eqb i j) p (upper k i) in
    corner_at (side 0) (side 1) (side 2)

-- the half at side p of axis j: its corner k stands in the middle of corner k and of the one on that side; twice this
abbrev pub half : {A : Type 0} → Arithmetic A → ℕ → Bool → (ℕ → A) → ℕ → A
half a j p x k = a.◌⊕◌ (x k) (x (moved j p k))

-- what both sides have together
abbrev pub both : (Bool → ℤ) → ℤ
both f = f false +ℤ f true

-- the volume of eight unknown corners, and of a half
abbrev half_of : ℕ → Bool → Expression
half_of j p = by_determinants expressions numeral (half expressions j p X) (half expressions j p Y) (half expressions j p Z)

module _ (x y z : ℕ → ℤ) where
  abbrev pub half_volume : ℕ → Bool → ℤ
  half_volume j p = volume216 (half integers j p x) (half integers j p y) (half integers j p z)

  abbrev by_det : ℕ → Bool → ℤ
  by_det j p = by_determinants integers pos (half integers j p x) (half integers j p y) (half integers j p z)

  computed : tabulate 3 (λ (j : ℕ). both (by_det j)) ≡ tabulate 3 (λ (j : ℕ). pos 8 *ℤ by_determinants integers pos x y z)
  computed =
      solve_each (corners x y z [])
      (tabulate 3 (λ (j : ℕ). half_of j false ⊞ half_of j true))
      (tabulate 3 (λ (j : ℕ). numeral 8 ⊠ by_determinants expressions numeral X Y Z))
      tt

  pub halves : (j : ℕ) → j < 3 → both (half_volume j) ≡ pos 8 *ℤ volume216 x y z
  halves j h =
      ap₂ (λ (a b : ℤ). a +ℤ b) (three_determinants _ _ _) (three_determinants _ _ _)
      ∙ tabulate_same 3 (λ (j : ℕ). both (by_det j)) (λ (j : ℕ). pos 8 *ℤ by_determinants integers pos x y z) computed j h
      ∙ ap (λ (v : ℤ). pos 8 *ℤ v) (sym (three_determinants x y z))
