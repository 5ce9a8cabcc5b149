-- The steps of a cell's volume are small, so that each fits 64 bits and is what is meant. Assumes nothing.
use Prim.Native.Nat.{ℕ, zero, suc}
use native.Mathlib.Nat.{le_refl}
use mathlib.Core.Path.{◌≡◌, ◌∙◌, subst⁻¹}
use mathlib.Core.List.{List, [], ◌∷◌, ◌++◌}
use lib.Dec.{T, lit≤}
use lib.IntN.{ℤ, pos, ◌+ℤ◌, ◌*ℤ◌}
use lib.ListN.{get_or}
use Rattle.numbers.specs.Arithmetic.{Arithmetic}
use Rattle.integers.specs.Integers.{integers}
use Rattle.integers.specs.Sizes.{Within}
use Rattle.integers.proofs.Expression.{var, expressions}
use Rattle.integers.proofs.Solve.{solve}
use Rattle.integers.proofs.Sizes.{within_back, back}
use Rattle.integers.proofs.Straight.{Code, arg, num, op, add, sub, mul, codes, got, easy, Exact, exact}
use Rattle.mat3_col_major.specs.Mat3.{det_in}
use Rattle.exact_volume.specs.Determinants.{along, part}
use Rattle.volume_report.specs.Sized.{most_part, at, Row, Part}
use Rattle.volume_report.specs.declared.Axis.{Axis}
use Rattle.volume_report.specs.declared.Corners.{Corners}

-- ---- the differences of one axis
abbrev pub less : ℕ → ℕ → Code
less a b = op sub (arg a) (arg b)

abbrev pub twist : ℕ → ℕ → ℕ → ℕ → Code
twist p q u v = op add (less p q) (less u v)

pub record Differences (x : List ℤ) (p q u v : ℕ) (a b c : ℤ) : Type 0 where
  pub are : a ∷ b ∷ c ∷ [] ≡ along integers pos (at x) p q u v
  pub small : Row a b c

module _ (k : Corners) where
  pub on_grid : (e : Code) → T (easy (λ i. 1024) e) → Exact (λ i. 1024) (at k.x) e
  on_grid e t = exact (λ i. 1024) (at k.x) (λ i. k.on_grid.at i) e t

  pub differences : (p q u v : ℕ) → Differences k.x p q u v (got (at k.x) (twist p q u v)) (got (at k.x) (less 6 p)) (got (at k.x) (less v 0))
  differences p q u v =
      let first = on_grid (twist p q u v) tt in
      let second = on_grid (less 6 p) tt in
      let third = on_grid (less v 0) tt in
      record {
        are = λ i. first.gives i ∷ second.gives i ∷ third.gives i ∷ [];
        small =
            record {
              twist = subst⁻¹ (Within 4096) first.gives first.sized;
              far = subst⁻¹ (Within 2048) second.gives second.sized;
              near = subst⁻¹ (Within 2048) third.gives third.sized;
            };
      }

-- ---- a determinant, by the minors of its last two columns
module _ {A : Type 0} (s : Arithmetic A) where
  open s use {◌⊕◌, ◌⊖◌, ◌⊗◌}

  infixl 75 ◌⊕◌
  infixl 75 ◌⊖◌
  infixl 80 ◌⊗◌
  abbrev pub minor : A → A → A → A → A
  minor e k f h = e ⊗ k ⊖ f ⊗ h

  abbrev pub by_minors : (a b c d e f g h k : A) → A
  by_minors a b c d e f g h k = a ⊗ minor e k f h ⊕ b ⊗ minor f g d k ⊕ c ⊗ minor d h e g

minors_determinant : (a b c d e f g h k : ℤ) → by_minors integers a b c d e f g h k ≡ det_in integers (a ∷ b ∷ c ∷ d ∷ e ∷ f ∷ g ∷ h ∷ k ∷ [])
minors_determinant a b c d e f g h k =
    solve (a ∷ b ∷ c ∷ d ∷ e ∷ f ∷ g ∷ h ∷ k ∷ [])
    (by_minors expressions (var 0) (var 1) (var 2) (var 3) (var 4) (var 5) (var 6) (var 7) (var 8))
    (det_in expressions (var 0 ∷ var 1 ∷ var 2 ∷ var 3 ∷ var 4 ∷ var 5 ∷ var 6 ∷ var 7 ∷ var 8 ∷ []))
    tt

-- the code of it, where the nine entries are the arguments
abbrev pub minors : Code
minors = by_minors codes (arg 0) (arg 1) (arg 2) (arg 3) (arg 4) (arg 5) (arg 6) (arg 7) (arg 8)

abbrev pub bounds : List ℕ
bounds = 4096 ∷ 2048 ∷ 2048 ∷ 4096 ∷ 2048 ∷ 2048 ∷ 4096 ∷ 2048 ∷ 2048 ∷ []

record Bounded (β : List ℕ) (ρ : List ℤ) : Type 0 where
  pub at : (i : ℕ) → Within (get_or β i 0) (at ρ i)

bounded_none : Bounded [] []
bounded_none = record { at = λ i. record { within = le_refl 0 } }

bounded_row : {a b c : ℤ} {β : List ℕ} {ρ : List ℤ} → Row a b c → Bounded β ρ → Bounded (4096 ∷ 2048 ∷ 2048 ∷ β) (a ∷ b ∷ c ∷ ρ)
bounded_row {a} {b} {c} {β} {ρ} row rest = record { at = by }
  where
    by : (i : ℕ) → Within (get_or (4096 ∷ 2048 ∷ 2048 ∷ β) i 0) (at (a ∷ b ∷ c ∷ ρ) i)
    by zero = row.twist
    by (suc zero) = row.far
    by (suc (suc zero)) = row.near
    by (suc (suc (suc i))) = rest.at i

module _ (r s t : Axis) where
  abbrev entries : List ℤ
  entries = r.twist ∷ r.far ∷ r.near ∷ s.twist ∷ s.far ∷ s.near ∷ t.twist ∷ t.far ∷ t.near ∷ []

  pub of_rows : (e : Code) → T (easy (λ i. get_or bounds i 0) e) → Exact (λ i. get_or bounds i 0) (at entries) e
  of_rows e ok = exact (λ i. get_or bounds i 0) (at entries) (bounded_row r.small (bounded_row s.small (bounded_row t.small bounded_none))).at e ok

  pub determined : Part (det_in integers entries) (got (at entries) minors)
  determined =
      let whole = of_rows minors tt in
      record { is = whole.gives ∙ minors_determinant r.twist r.far r.near s.twist s.far s.near t.twist t.far t.near; small = subst⁻¹ (Within most_part) whole.gives whole.sized }

-- ---- a part: the determinant is read back as it was
pub parted : (x y z : List ℤ) (p q u v : ℕ) (a b c : Axis) (r : ℤ)
    → a.twist ∷ a.far ∷ a.near ∷ [] ≡ along integers pos (at x) p q u v
    → b.twist ∷ b.far ∷ b.near ∷ [] ≡ along integers pos (at y) p q u v
    → c.twist ∷ c.far ∷ c.near ∷ [] ≡ along integers pos (at z) p q u v
    → Part (det_in integers (entries a b c)) r → Part (part integers pos (at x) (at y) (at z) p q u v) (back r)
parted x y z p q u v a b c r i j k whole =
    let same = within_back tt whole.small in
    record { is = same ∙ whole.is ∙ (λ t. det_in integers (i t ++ (j t ++ k t))); small = subst⁻¹ (Within most_part) same whole.small }

-- ---- 18 times the sum of three parts
abbrev pub sum : Code
sum = op add (op add (arg 0) (arg 1)) (arg 2)

abbrev pub eighteen : Code
eighteen = op mul (num 18) sum

module _ {a b c r s t : ℤ} (x : Part a r) (y : Part b s) (z : Part c t) where
  abbrev parts : ℕ → ℤ
  parts i = at (r ∷ s ∷ t ∷ []) i

  pub of_parts : (e : Code) → T (easy (λ i. most_part) e) → Exact (λ i. most_part) parts e
  of_parts e ok = exact (λ i. most_part) parts by e ok
    where
      by : (i : ℕ) → Within most_part (parts i)
      by zero = x.small
      by (suc zero) = y.small
      by (suc (suc zero)) = z.small
      by (suc (suc (suc i))) = record { within = lit≤ tt }

  pub eighteen_times : got parts eighteen ≡ pos 18 *ℤ (a +ℤ b +ℤ c)
  eighteen_times = (of_parts eighteen tt).gives ∙ (λ i. pos 18 *ℤ (x.is i +ℤ y.is i +ℤ z.is i))
