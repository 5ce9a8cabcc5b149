-- The float image of a place is the exact one but for thirteen roundings of M, which are less than fourteen parts in 2 ^ 53 of it. Assumes nothing.
use Prim.Native.Nat.{ℕ, ◌+◌, ◌*◌, ◌^◌, ◌≤◌, ◌<◌}
use native.Mathlib.Nat.{le_trans, le_of_eq, mul-le-mul, mul-le-mul_right, mul-le-mul_left, mul-zero}
use native.Mathlib.Omega.{arith}
use mathlib.Core.Path.{◌≡◌, sym, ap, ◌∙◌, subst}
use mathlib.Core.Logic.{◌⊎◌, inl, inr}
use mathlib.Core.Bool.{Bool, true, false}
use mathlib.Core.List.{List}
use lib.Dec.{lit≤}
use lib.Ieee.{Float, nan, binary64}
use Rattle.numbers.proofs.Largest.{largest_least, largest_most}
use Rattle.numbers.proofs.Tabulate.{tabulate_at}
use Rattle.binary64.specs.Binary64.{◌!◌}
use Rattle.binary64.specs.Exact.{one, size}
use Rattle.cell.specs.Image.{corner, image_on}
use Rattle.hexahedron.specs.Cube.{upper}
use Rattle.hex_shape.specs.Shape.{shape, shape_at}
use Rattle.hex_image.specs.Image.{image_at}
use Rattle.probe.specs.Exact.{exact_weight, exact_image, whole, largest, roundings, margin}
use Rattle.probe.proofs.Shape.{Coordinate, side_units, side_bound, little, scale, sides_both, bound_between, shape_sized}
use Rattle.probe.proofs.Weights.{weight, weight_exact, corner_sum, Small}
use Rattle.rounding.proofs.Units.{Held, plus, minus}
use Rattle.rounding.proofs.Weight.{Slack}
use Rattle.rounding.proofs.Products.{Term, Fraction, Image, gathered, Weights, estimate, image_near}
use Rattle.rounding.proofs.Exact.{Balance, balance_image}

-- a corner's coordinate that refusal 3 lets pass: zero, or from 2 ^ -100 to 2 ^ 100 in size, which are 2 ^ 974 and 2 ^ 1174 units
pub record Good (x : Float) : Type 0 where
  pub held : Held binary64 x
  pub least : (size x ≡ 0) ⊎ (2 ^ 974 ≤ size x)
  pub most : size x ≤ 2 ^ 1174

slack_five : Slack scale 5 0
slack_five = record { growth = lit≤ tt; left = lit≤ tt; right = lit≤ tt }

scaled_by : (c m b K r W B : ℕ) → b ≡ K → c * K ≤ r * W * B → c * (m * b) ≤ r * m * W * B
scaled_by c m b K r W B same h = le_trans (le_of_eq (ap (λ (x : ℕ). c * (m * x)) same)) (omega (arith, mul-le-mul_left m h))

-- a place in the cube
abbrev pub Place : List Float → Type 0
Place q = (j : ℕ) → j < 3 → Coordinate (q ! j)

module _ (p q : List Float) (i : ℕ) (place : Place q) (corners : (k : ℕ) → k < 8 → Good (corner p k i)) where
  A : Coordinate (q ! 0)
  A = place 0 (lit≤ tt)

  B : Coordinate (q ! 1)
  B = place 1 (lit≤ tt)

  C : Coordinate (q ! 2)
  C = place 2 (lit≤ tt)

  small : Small q
  small i below = (place i below).small

  abbrev bound : ℕ → ℕ
  bound k = side_bound (upper k 0) (q ! 0) * side_bound (upper k 1) (q ! 1) * side_bound (upper k 2) (q ! 2)

  abbrev weights : Weights
  weights = record { value = shape_at q; exact = weight q; bound = bound; roundings = 5 }

  -- the bounds of the eight weights are a little more than `whole`
  both : (i : ℕ) → i < 3 → side_bound true (q ! i) + side_bound false (q ! i) ≡ 2 * one + 2 * little
  both i below =
      spread (side_units true (q ! i)) (side_units false (q ! i)) little
      ∙ ap (λ (n : ℕ). n + 2 * little) (sides_both (q ! i) (small i below))
    where
      spread : (m n e : ℕ) → m + e + (n + e) ≡ m + n + 2 * e
      spread m n e = omega arith

  bulk : gathered ◌+◌ 7 bound ≡ (2 * one + 2 * little) ^ 3
  bulk = corner_sum (λ (up : Bool) (i : ℕ). side_bound up (q ! i)) ∙ (simp (both 0 (lit≤ tt), both 1 (lit≤ tt), both 2 (lit≤ tt)))

  -- ---- the eight products
  abbrev M : ℕ
  M = largest p i

  corner_most : (k : ℕ) → k < 8 → size (corner p k i) ≤ M
  unfolding largest
  corner_most k below = largest_least 8 0 (λ (k : ℕ). size (corner p k i)) k below

  M-most : M ≤ 2 ^ 1174
  unfolding largest
  M-most = largest_most 8 0 (2 ^ 1174) (λ (k : ℕ). size (corner p k i)) (lit≤ tt) (λ (k : ℕ) (below : k < 8). (corners k below).most)

  term : (k : ℕ) → k < 8 → Term scale M (shape_at q k) (corner p k i) (estimate weights k)
  term k below =
      let good = corners k below in
      let value = shape_sized (upper k 0) (upper k 1) (upper k 2) (q ! 0) (q ! 1) (q ! 2) A B C in
      let between = bound_between (upper k 0) (upper k 1) (upper k 2) (q ! 0) (q ! 1) (q ! 2) A B C in
      record {
        sized = value.sized;
        nonneg = inl value.sign_is;
        held = good.held;
        room = le_trans (mul-le-mul_right 8 (mul-le-mul between.1 good.most)) (lit≤ tt);
        normal = elim good.least [
          | inl none ↦ inl (ap (λ (n : ℕ). bound k * n) none ∙ mul-zero (bound k))
          | inr least ↦ inr (le_trans (lit≤ tt) (mul-le-mul between.0 least))
        ];
        most = corner_most k below;
      }

  abbrev exact : Fraction
  exact =
      record {
        up = gathered ◌+◌ 7 (λ (k : ℕ). weight q k * plus binary64 (corner p k i));
        down = gathered ◌+◌ 7 (λ (k : ℕ). weight q k * minus binary64 (corner p k i));
        whole = whole;
      }

  pub image_balance : Balance (exact_image p q i) exact.up exact.down
  unfolding exact_image
  image_balance = balance_image 7 (exact_weight q) (weight q) (λ (k : ℕ). corner p k i) (λ (k : ℕ) (below : k < 8). weight_exact q small k)

  -- thirteen roundings of the bounds are at most fourteen parts of `whole`
  fourteen : 13 * (2 ^ 53 + roundings) * (M * gathered ◌+◌ 7 bound) ≤ margin p i * 2 ^ 53
  fourteen = scaled_by (13 * (2 ^ 53 + roundings)) M (gathered ◌+◌ 7 bound) ((2 * one + 2 * little) ^ 3) roundings whole (2 ^ 53) bulk (lit≤ tt)

  pub image_close : i < 3 → Image binary64 (image_at p q ! i) exact (margin p i)
  unfolding image_at
  image_close below =
      let room = le_trans (mul-le-mul_right 4 (mul-le-mul M-most (le_of_eq bulk))) (lit≤ tt) in
      let z = image_near scale M 7 weights (λ (k : ℕ). corner p k i) (lit≤ tt) (lit≤ tt) slack_five term (margin p i) (lit≤ tt) room fourteen in
      subst (λ (x : Float). Image binary64 x exact (margin p i)) (sym (tabulate_at 3 (image_on 8 (shape q) p) nan i below)) z
