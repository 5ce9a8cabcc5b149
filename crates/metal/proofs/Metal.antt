-- The eight children hold what the cell holds. A child is the cell halved three times, once along each axis toward its corner: one computed test over the 64
-- corners of children. So the sum over the children is the sum over both halves of both halves of both halves. Assumes nothing.
use Prim.Native.Nat.{ℕ, ◌+◌, ◌*◌, ◌/◌, ◌%◌, ◌<◌}
use native.Mathlib.Omega.{arith}
use mathlib.Core.Path.{◌≡◌, sym, ◌∙◌, ap, ap₂}
use mathlib.Core.Bool.{Bool, false, true}
use mathlib.Core.List.{[], ◌∷◌}
use lib.Dec.{eqb, eqb→eq}
use lib.IntN.{ℤ, pos, ◌+ℤ◌, ◌*ℤ◌}
use lib.ListN.{length, get_or}
use Rattle.numbers.specs.Rule.{tabulate, grid, fold_to}
use Rattle.numbers.specs.Arithmetic.{Arithmetic}
use Rattle.numbers.proofs.Slots.{slot_row, slot_place}
use Rattle.numbers.proofs.Tabulate.{tabulate_same}
use Rattle.numbers.proofs.Tests.{all_at}
use Rattle.integers.specs.Integers.{integers}
use Rattle.integers.specs.Sums.{sum_to}
use Rattle.integers.proofs.Expression.{number, var, ◌⊞◌, ◌⊠◌, expressions}
use Rattle.integers.proofs.Ring.{times_sum}
use Rattle.integers.proofs.Solve.{solve, solve_each}
use Rattle.integers.proofs.Sums.{sum_alike}
use Rattle.hexahedron.specs.Cube.{upper}
use Rattle.hex_children.specs.Children.{nodes}
use Rattle.exact_volume.specs.Volume.{volume216}
use Rattle.exact_volume.proofs.Corners.{numeral, X}
use Rattle.exact_volume.proofs.Determinants.{same_corners}
use Rattle.exact_volume.proofs.Laws.{scaled_volume}
use Rattle.metal.specs.Metal.{child_axis, child_axis_in, child_volume, MiddlesWhole, ChildrenKeepTheMetal}
use Rattle.metal.proofs.Halves.{half, both, halves}

pub middles_whole : MiddlesWhole
middles_whole m h = eqb→eq _ _ (all_at 27 (λ (m : ℕ). eqb (8 / length (get_or nodes m []) * length (get_or nodes m [])) 8) tt m h)

-- halved three times
abbrev octant : {A : Type 0} → Arithmetic A → (p q u : Bool) → (ℕ → A) → ℕ → A
octant a p q u x = half a 2 u (half a 1 q (half a 0 p x))

-- toward corner i
abbrev toward : {A : Type 0} → Arithmetic A → ℕ → (ℕ → A) → ℕ → A
toward a i x = octant a (upper i 0) (upper i 1) (upper i 2) x

computed : (x : ℕ → ℤ) → grid 8 8 (child_axis x) ≡ grid 8 8 (λ (i k : ℕ). toward integers i x k)
computed x =
    solve_each (tabulate 8 x) (grid 8 8 (child_axis_in expressions numeral X)) (grid 8 8 (λ (i k : ℕ). toward expressions i X k)) tt

child_is : (x : ℕ → ℤ) (i k : ℕ) → i < 8 → k < 8 → child_axis x i k ≡ toward integers i x k
child_is x i k hi hk =
    rw (slot_row 8 i k hk, slot_place 8 i k hk) at
    (tabulate_same 64 (λ (j : ℕ). child_axis x (j / 8) (j % 8)) (λ (j : ℕ). toward integers (j / 8) x (j % 8)) (computed x) (8 * i + k) (omega arith))

-- eight numbers, one for each octant, in the order of the corners
in_pairs : (f : Bool → Bool → Bool → ℤ)
    → sum_to 8 (λ (i : ℕ). f (upper i 0) (upper i 1) (upper i 2)) ≡ both (λ p. both (λ q. both (f p q)))
in_pairs f =
    solve (tabulate 8 (λ (i : ℕ). f (upper i 0) (upper i 1) (upper i 2)))
    (fold_to ◌⊞◌ (number (pos 0)) 8 X)
    (((X 0 ⊞ X 4) ⊞ (X 3 ⊞ X 7)) ⊞ ((X 1 ⊞ X 5) ⊞ (X 2 ⊞ X 6)))
    tt

both_eightfold : (f g : Bool → ℤ) → ((p : Bool) → f p ≡ pos 8 *ℤ g p) → both f ≡ pos 8 *ℤ both g
both_eightfold f g h = ap₂ (λ (a b : ℤ). a +ℤ b) (h false) (h true) ∙ sym (times_sum (pos 8) (g false) (g true))

eights : (v : ℤ) → pos 8 *ℤ (pos 8 *ℤ (pos 8 *ℤ v)) ≡ pos 512 *ℤ v
eights v = solve (v ∷ []) (numeral 8 ⊠ (numeral 8 ⊠ (numeral 8 ⊠ var 0))) (numeral 512 ⊠ var 0) tt

module _ (x y z : ℕ → ℤ) where
  -- the volumes after three, two and one halvings
  abbrev three : Bool → Bool → Bool → ℤ
  three p q u = volume216 (octant integers p q u x) (octant integers p q u y) (octant integers p q u z)

  abbrev of : ((ℕ → ℤ) → ℕ → ℤ) → ℤ
  of f = volume216 (f x) (f y) (f z)

  abbrev two : Bool → Bool → ℤ
  two p q = of (λ w. half integers 1 q (half integers 0 p w))

  abbrev one : Bool → ℤ
  one p = of (half integers 0 p)

  along_t : (p q : Bool) → both (three p q) ≡ pos 8 *ℤ two p q
  along_t p q = halves _ _ _ 2 (omega arith)

  along_s : (p : Bool) → both (two p) ≡ pos 8 *ℤ one p
  along_s p = halves _ _ _ 1 (omega arith)

  along_r : both one ≡ pos 8 *ℤ volume216 x y z
  along_r = halves x y z 0 (omega arith)

  octants : both (λ p. both (λ q. both (three p q))) ≡ pos 8 *ℤ (pos 8 *ℤ (pos 8 *ℤ volume216 x y z))
  octants =
      both_eightfold (λ p. both (λ q. both (three p q))) (λ p. both (two p)) (λ p. both_eightfold (λ q. both (three p q)) (two p) (along_t p))
      ∙ ap (λ (v : ℤ). pos 8 *ℤ v) (both_eightfold (λ p. both (two p)) one along_s ∙ ap (λ (v : ℤ). pos 8 *ℤ v) along_r)

  children : sum_to 8 (child_volume x y z) ≡ pos 8 *ℤ (pos 8 *ℤ (pos 8 *ℤ volume216 x y z))
  children =
      sum_alike 8 (child_volume x y z) (λ (i : ℕ). three (upper i 0) (upper i 1) (upper i 2))
      (λ i below. same_corners (λ k h. child_is x i k below h) (λ k h. child_is y i k below h) (λ k h. child_is z i k below h))
      ∙ in_pairs three
      ∙ octants

pub children_keep_the_metal : ChildrenKeepTheMetal
children_keep_the_metal =
    record {
      times512 = λ x y z. children x y z ∙ eights (volume216 x y z);
      scaled = λ x y z. children x y z ∙ sym (scaled_volume x y z (pos 8));
    }
