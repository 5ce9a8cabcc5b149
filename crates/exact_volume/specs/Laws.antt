-- What a buyer would ask of the exact volume. Claims only.
use Rattle.std.specs.Prelude.{ℕ, zero, suc, ◌+◌, ◌*◌, ◌≤◌, ◌<◌, ◌≡◌, Bool, true, ◌&&◌, cond, [], ◌∷◌, T, leb, ℤ, pos, neg_ℤ, ◌+ℤ◌, ◌*ℤ◌}
use Rattle.numbers.specs.Rule.{all}
use Rattle.numbers.specs.Arithmetic.{Arithmetic}
use Rattle.integers.specs.Integers.{integers}
use Rattle.hexahedron.specs.Cube.{upper}
use Rattle.exact_volume.specs.Volume.{Polynomial, axis, jacobian, weight, volume216}

module _ {A : Type 0} (a : Arithmetic A) where
  open a use {one, ◌⊕◌, ◌⊗◌}

  infixl 75 ◌⊕◌
  infixl 80 ◌⊗◌
  abbrev pub power : A → ℕ → A
  power q zero = one
  power q (suc e) = q ⊗ power q e

  -- a polynomial's value where r, s and t are q 0, q 1 and q 2
  abbrev pub value_at : (ℕ → A) → Polynomial A → A
  value_at q [] = a.zero
  value_at q (t ∷ p) = t.coefficient ⊗ power (q 0) (t.powers 0) ⊗ power (q 1) (t.powers 1) ⊗ power (q 2) (t.powers 2) ⊕ value_at q p

  -- where corner k of the unit cube stands on axis i
  abbrev pub unit_corner : ℕ → ℕ → A
  unit_corner k i = cond (upper k i) one a.zero

  -- corner k of a box on axis i, which begins at `from` and is so long
  abbrev pub box_corner : ℕ → A → A → ℕ → A
  box_corner i from long k = from ⊕ cond (upper k i) long a.zero

-- Each axis' polynomial takes the coordinate of corner k at corner k of the unit cube.
abbrev pub ThroughTheCorners : Type 0
ThroughTheCorners = (x : ℕ → ℤ) (k : ℕ) → k < 8 → value_at integers (unit_corner integers k) (axis integers pos x) ≡ x k

-- "with a, b and c at most 2": no power of the determinant passes 2,
abbrev pub is_quadratic : {A : Type 0} → Polynomial A → Bool
is_quadratic [] = true
is_quadratic (t ∷ p) = all 3 (λ (i : ℕ). leb (t.powers i) 2) && is_quadratic p

abbrev pub DegreeTwo : Type 0
DegreeTwo = (x y z : ℕ → ℤ) → T (is_quadratic (jacobian integers pos x y z))

-- and so far each weight is whole: its division leaves nothing over.
abbrev pub WeightsWhole : Type 0
WeightsWhole = (powers : ℕ → ℕ) → ((i : ℕ) → i < 3 → powers i ≤ 2) → weight powers * ((powers 0 + 1) * (powers 1 + 1) * (powers 2 + 1)) ≡ 216

-- A box of sides a, b and c at any place holds 216 a b c.
abbrev pub BoxVolume : Type 0
BoxVolume =
    (p q u a b c : ℤ) → volume216 (box_corner integers 0 p a) (box_corner integers 1 q b) (box_corner integers 2 u c) ≡ pos 216 *ℤ (a *ℤ (b *ℤ c))

-- Moving a cell changes nothing.
abbrev pub MovedVolume : Type 0
MovedVolume =
    (x y z : ℕ → ℤ) (a b c : ℤ) → volume216 (λ (k : ℕ). x k +ℤ a) (λ (k : ℕ). y k +ℤ b) (λ (k : ℕ). z k +ℤ c) ≡ volume216 x y z

-- Two axes exchanged turn the sign.
pub record MirroredVolume : Type 0 where
  pub first_two : (x y z : ℕ → ℤ) → volume216 y x z ≡ neg_ℤ (volume216 x y z)
  pub last_two : (x y z : ℕ → ℤ) → volume216 x z y ≡ neg_ℤ (volume216 x y z)
  pub outer_two : (x y z : ℕ → ℤ) → volume216 z y x ≡ neg_ℤ (volume216 x y z)

-- Coordinates times m make the volume times m^3.
abbrev pub ScaledVolume : Type 0
ScaledVolume =
    (x y z : ℕ → ℤ) (m : ℤ) → volume216 (λ (k : ℕ). m *ℤ x k) (λ (k : ℕ). m *ℤ y k) (λ (k : ℕ). m *ℤ z k) ≡ m *ℤ (m *ℤ (m *ℤ volume216 x y z))
