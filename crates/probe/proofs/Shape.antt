-- The shape value of a corner is its exact weight but for five roundings: one for each of its three sides and one for each of two products, since an
-- eighth of a side is exact. Assumes nothing.
use Prim.Native.Nat.{ℕ, ◌+◌, ◌-◌, ◌*◌, ◌^◌, ◌≤◌}
use native.Mathlib.Nat.{le_trans, le_of_eq, le_refl, mul-le-mul, mul-le-mul_right, add-le-add}
use native.Mathlib.Omega.{arith}
use mathlib.Core.Path.{◌≡◌, refl, ap, ap₂, ◌∙◌, subst}
use mathlib.Core.Logic.{inr}
use mathlib.Core.Bool.{Bool, true, false, not, cond}
use lib.IntN.{ℤ, pos, neg_ℤ, ◌+ℤ◌, ◌-ℤ◌, neg_ℤ-neg_ℤ}
use lib.Dec.{T, lit≤}
use lib.Ieee.{Float, binary64, unlike, add, sub, mul, div, neg, of_bits, fits}
use lib.Ieee.Fits.{add-fits, sub-fits}
use Rattle.binary64.specs.Binary64.{◌⊗◌}
use Rattle.binary64.specs.Exact.{one, size, is_negative}
use Rattle.hex_shape.specs.Shape.{one8, side}
use Rattle.probe.specs.Exact.{exact_side, roundings}
use Rattle.rounding.proofs.Units.{Held, neg_held, neg_size, neg_sign}
use Rattle.rounding.proofs.Round.{Rounded}
use Rattle.rounding.proofs.Estimate.{Scale, over, Estimate, Sized, Times, times, square}
use Rattle.rounding.proofs.Weight.{Slack, product_sized}
use Rattle.rounding.proofs.Factor.{one_plus, one_plus_lem, rounded_once, rounded_sized, eighth_sized}
use Rattle.rounding.proofs.Exact.{pos_minus}

-- a coordinate of a place in the cube
pub record Coordinate (r : Float) : Type 0 where
  pub held : Held binary64 r
  pub small : size r ≤ one

-- ---- a side: one plus or minus a coordinate
abbrev pub side_units : Bool → Float → ℕ
side_units up r = one_plus binary64 (cond up (is_negative r) (not (is_negative r))) (size r)

side_rounded : (up : Bool) (r : Float) → Coordinate r → Rounded binary64 (side up r) false (side_units up r) 1 (side_units up r)
unfolding of_bits sub
side_rounded true r c = one_plus_lem binary64 r c.held c.small
side_rounded false r c =
    let turned = ap₂ (λ (s : Bool) (n : ℕ). one_plus binary64 s n) (neg_sign r c.held.is_finite) (neg_size binary64 r) in
    subst (λ (n : ℕ). Rounded binary64 (side false r) false n 1 n) turned
    (one_plus_lem binary64 (neg r) (neg_held binary64 r c.held) (le_trans (le_of_eq (neg_size binary64 r)) c.small))

side_fits : (up : Bool) (r : Float) → T (fits binary64 (side up r))
side_fits true r = add-fits binary64 _ r
side_fits false r = sub-fits binary64 _ r

-- in numbers, for a one of L units
abbrev reach : ℕ → Bool → ℕ → ℕ
reach L s R = cond s (L - R) (L + R)

reach_most : (L : ℕ) (s : Bool) (R : ℕ) → R ≤ L → reach L s R ≤ 2 * L
reach_most L true R small = omega arith
reach_most L false R small = omega arith

reach_both : (L : ℕ) (s : Bool) (R : ℕ) → R ≤ L → reach L s R + reach L (not s) R ≡ 2 * L
reach_both L true R small = omega arith
reach_both L false R small = omega arith

reach_exact : (L : ℕ) (up s : Bool) (R : ℕ) → R ≤ L
    → cond up (pos L +ℤ cond s (neg_ℤ (pos R)) (pos R)) (pos L -ℤ cond s (neg_ℤ (pos R)) (pos R)) ≡ pos (reach L (cond up s (not s)) R)
reach_exact L true true R small = pos_minus L R small
reach_exact L true false R small = refl
reach_exact L false true R small = ap (λ (z : ℤ). pos L +ℤ z) (neg_ℤ-neg_ℤ (pos R))
reach_exact L false false R small = pos_minus L R small

pub exact_side_lem : (up : Bool) (r : Float) → size r ≤ one → exact_side up r ≡ pos (side_units up r)
exact_side_lem up r small = reach_exact one up (is_negative r) (size r) small

-- the two sides of an axis are two
pub sides_both : (r : Float) → size r ≤ one → side_units true r + side_units false r ≡ 2 * one
sides_both r small = reach_both one (is_negative r) (size r) small

-- ---- the bound that a side's error is measured by: with a little added it is in the normal range
abbrev pub little : ℕ
little = 2 ^ 900

abbrev pub side_bound : Bool → Float → ℕ
side_bound up r = side_units up r + little

bound_least : (up : Bool) (r : Float) → little ≤ side_bound up r
bound_least up r = add_right (side_units up r) little
  where
    add_right : (n m : ℕ) → m ≤ n + m
    add_right n m = omega arith

bound_most : (up : Bool) (r : Float) → Coordinate r → side_bound up r ≤ 2 * one + little
bound_most up r c = add-le-add (reach_most one (cond up (is_negative r) (not (is_negative r))) (size r) c.small) (le_refl little)

abbrev side_estimate : Bool → Float → Estimate
side_estimate up r = rounded_once (side_units up r) little

-- ---- sides are counted in units, an eighth of one in eighths of a unit, and each product in parts of a square unit
abbrev in_units : Scale
in_units = record { format = binary64; spare = roundings; whole = 1 }

abbrev in_eighths : Scale
in_eighths = over in_units 8

abbrev pub scale : Scale
scale = square (square in_eighths 1) 1

-- fourteen leaves room for five roundings and what they make together
slack_two : Slack in_eighths 1 1
slack_two = record { growth = lit≤ tt; left = lit≤ tt; right = lit≤ tt }

slack_four : Slack (square in_eighths 1) 3 1
slack_four = record { growth = lit≤ tt; left = lit≤ tt; right = lit≤ tt }

side_sized : (up : Bool) (r : Float) → Coordinate r → Sized in_units (side up r) (side_estimate up r)
side_sized up r c = rounded_sized in_units little (side_fits up r) (side_rounded up r c)

-- ---- the shape value of the corner with these signs
module _ (u v w : Bool) (a b c : Float) (A : Coordinate a) (B : Coordinate b) (C : Coordinate c) where
  one_side : Times in_eighths (one8 ⊗ side u a) false (side_estimate u a)
  unfolding add mul div of_bits
  one_side =
      let r = side_rounded u a A in
      eighth_sized in_units (record { in_format = side_fits u a; is_finite = r.is_finite }) r (lit≤ tt)

  abbrev two_estimate : Estimate
  two_estimate = times (side_estimate u a) (side_estimate v b)

  two_sides : Times (square in_eighths 1) (one8 ⊗ side u a ⊗ side v b) false two_estimate
  two_sides =
      let room = le_trans (mul-le-mul_right 8 (mul-le-mul (bound_most u a A) (bound_most v b B))) (lit≤ tt) in
      let normal = inr (le_trans (lit≤ tt) (mul-le-mul (bound_least u a) (bound_least v b))) in
      let z = product_sized in_eighths 1 (lit≤ tt) (lit≤ tt) one_side.sized (side_sized v b B) slack_two room normal in
      record { sized = z.sized; sign_is = z.sign_is ∙ ap₂ unlike one_side.sign_is (side_rounded v b B).sign }

  abbrev shape_estimate : Estimate
  shape_estimate = times two_estimate (side_estimate w c)

  pub bound_between : (little ^ 3 ≤ shape_estimate.bound) × (shape_estimate.bound ≤ (2 * one + little) ^ 3)
  bound_between = (
    mul-le-mul (mul-le-mul (bound_least u a) (bound_least v b)) (bound_least w c),
    mul-le-mul (mul-le-mul (bound_most u a A) (bound_most v b B)) (bound_most w c C),
  )

  pub shape_sized : Times scale (one8 ⊗ side u a ⊗ side v b ⊗ side w c) false shape_estimate
  shape_sized =
      let room = le_trans (mul-le-mul_right 8 bound_between.1) (lit≤ tt) in
      let normal = inr (le_trans (lit≤ tt) bound_between.0) in
      let z = product_sized (square in_eighths 1) 1 (lit≤ tt) (lit≤ tt) two_sides.sized (side_sized w c C) slack_four room normal in
      record { sized = z.sized; sign_is = z.sign_is ∙ ap₂ unlike two_sides.sign_is (side_rounded w c C).sign }
