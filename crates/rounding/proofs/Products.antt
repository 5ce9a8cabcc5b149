-- The error of a sum of products, one law for any number of corners: weight times corner, added from the left. Assumes nothing.
use Prim.Native.Nat.{ℕ, zero, suc, ◌+◌, ◌-◌, ◌*◌, ◌^◌, ◌≤◌, ◌<◌, suc-le-suc}
use native.Mathlib.Nat.{le_trans, le_refl, le_of_mul-le-mul_right, add-zero, mul-le-mul_right, mul-le-mul_left, mul-pos, mul-one, zero-mul, zero-lt-suc}
use native.Mathlib.Omega.{arith}
use mathlib.Core.Path.{◌≡◌, refl, ap, ◌∙◌}
use mathlib.Core.Logic.{◌⊎◌, inl, inr}
use mathlib.Core.Bool.{Bool, true, false}
use lib.Arith.{le-zero}
use lib.Pow.{pow_pos}
use lib.Ieee.{Float, Format, prec, low, unlike, add, mul}
use lib.Ieee.Scale.{overflow}
use Rattle.numbers.specs.Rule.{fold_to}
use Rattle.binary64.specs.Exact.{size_in, is_negative}
use Rattle.rounding.proofs.Within.{Within, within_as, within_unscaled, within_wider}
use Rattle.rounding.proofs.Units.{Held, gain, loss, plus, minus, unlike_plus}
use Rattle.rounding.proofs.Mul.{mul_near}
use Rattle.rounding.proofs.Estimate.{Scale, over, fine, cost, Estimate, Sized, Times, times, square, Signed, Near}
use Rattle.rounding.proofs.Sum.{later, sums_near}
use Rattle.rounding.proofs.Weight.{Slack, product_sized}

-- not below zero: the sign is plus, or the value is a zero of either sign
abbrev pub NonNegative : Format → Float → Type 0
NonNegative f x = (is_negative x ≡ false) ⊎ (size_in f x ≡ 0)

-- What the law asks of a corner: its weight is near its estimate; times the corner, the bound is zero or in the normal range, and far from overflow; and the
-- corner is at most M units in size.
pub record Term (s : Scale) (M : ℕ) (weight corner : Float) (e : Estimate) : Type 0 where
  pub sized : Sized s weight e
  pub nonneg : NonNegative s.format weight
  pub held : Held s.format corner
  pub room : e.bound * size_in s.format corner * 8 ≤ overflow s.format * 2 ^ low s.format * s.whole
  pub normal :
      (e.bound * size_in s.format corner ≡ 0)
      ⊎ (2 ^ (prec s.format - 1) * 2 ^ low s.format * s.whole ≤ e.bound * size_in s.format corner)
  pub most : size_in s.format corner ≤ M

-- weight times corner, rounded once more, is counted in parts of a square unit
abbrev weighted : Format → Estimate → Float → Signed
weighted f e corner =
    record {
      up = e.exact * plus f corner;
      down = e.exact * minus f corner;
      bound = e.bound * size_in f corner;
      roundings = suc e.roundings;
    }

abbrev pub of_products : Scale → Scale
of_products s = over s (s.whole * 2 ^ low s.format)

-- ---- in numbers: a size near an exact one, with the sign u of both, is near it on both sides
module _ (X D w c t : ℕ) where
  signed : (u : Bool) (Z : ℕ) → Within (Z * D * c) (w * X * c) t → Within ((gain u Z * D + w * loss u X) * c) ((loss u Z * D + w * gain u X) * c) t
  signed true Z near = omega arith
  signed false Z near = omega arith

  -- and so is a zero, whatever its sign is
  signed_zero : (u v : Bool) → Within (0 * D * c) (w * X * c) t → Within ((gain u 0 * D + w * loss v X) * c) ((loss u 0 * D + w * gain v X) * c) t
  signed_zero true true near = omega arith
  signed_zero true false near = omega arith
  signed_zero false true near = omega arith
  signed_zero false false near = omega arith

  sides : (u : Bool) (v : ℕ) → w ≤ v → w * gain u X + w * loss u X ≤ v * X
  sides true v h = omega (arith, mul-le-mul_right X h)
  sides false v h = omega (arith, mul-le-mul_right X h)

-- ---- one product is a term of the sum
module _
    (s : Scale) (M : ℕ) {weight corner : Float} {e : Estimate} (pos : 0 < s.whole) (slack : Slack s e.roundings 0) (term : Term s M weight corner e)
  where
    abbrev f : Format
    f = s.format

    abbrev z : Float
    z = mul f weight corner

    abbrev X : ℕ
    X = size_in f corner

    abbrev D : ℕ
    D = s.whole * 2 ^ low f

    abbrev c : ℕ
    c = fine s * fine s

    -- what is lost of a product
    abbrev t : ℕ
    t = cost s (suc e.roundings) * (e.bound * X)

    -- the corner is its own size, with no rounding
    abbrev itself : Estimate
    itself = record { exact = X; bound = X; roundings = 0 }

    corner_sized : Sized (over s 1) corner itself
    corner_sized = record { held = term.held; close = omega arith; bounded = le_refl X }

    multiplied : Times (square s 1) z (unlike (is_negative weight) (is_negative corner)) (times e itself)
    multiplied =
        product_sized s 1 pos (pow_pos 0) term.sized corner_sized slack (omega (arith, term.room))
        (elim term.normal [ inl none ↦ inl none | inr normal ↦ inr (omega arith) ])

    size_close : Within (size_in f z * D * c) (e.exact * X * c) t
    size_close =
        within_as (ap (λ (m : ℕ). size_in f z * (m * 2 ^ low f) * c) (mul-one s.whole)) refl
        (ap (λ (m : ℕ). cost s (suc m) * (e.bound * X)) (add-zero e.roundings)) multiplied.sized.close

    nothing : size_in f weight ≡ 0 → size_in f z ≡ 0
    nothing none =
        let zeros : size_in f weight * X ≡ 0 = ap (λ (m : ℕ). m * X) none ∙ zero-mul X in
        let exact = mul_near f weight corner 1 0 term.sized.held term.held (pow_pos 0) (omega arith) (omega arith) (inl zeros) in
        let parts = 2 ^ low f * fine s in
        let small : size_in f z * parts ≤ 0 * parts = omega (arith, exact.close.over, ap (λ (m : ℕ). m * fine s) zeros) in
        le-zero (le_of_mul-le-mul_right {k = parts} small (mul-pos (pow_pos (low f)) (pow_pos (prec f))))

    both_sides : NonNegative f weight → Within ((plus f z * D + e.exact * minus f corner) * c) ((minus f z * D + e.exact * plus f corner) * c) t
    unfolding plus minus
    both_sides (inl sign) =
        let plain = ap (λ (s : Bool). unlike s (is_negative corner)) sign ∙ unlike_plus (is_negative corner) in
        let same : is_negative z ≡ is_negative corner = multiplied.sign_is ∙ plain in
        rw same (signed X D e.exact c t (is_negative corner) (size_in f z) size_close)
    both_sides (inr none) =
        rw (nothing none) (signed_zero X D e.exact c t (is_negative z) (is_negative corner) (rw (nothing none) at size_close))

    term_near : Near (of_products s) z (weighted f e corner)
    unfolding plus minus
    term_near =
        record {
          held = multiplied.sized.held;
          close = both_sides term.nonneg;
          bounded = sides X D e.exact c 0 (is_negative corner) e.bound term.sized.bounded;
        }

-- ---- the sum of n + 1 products
-- g 0, g 1, .. g n put together from the left
abbrev pub gathered : {A : Type 0} → (A → A → A) → ℕ → (ℕ → A) → A
gathered op n g = fold_to op (g 0) n (later g)

fold_most : (n M a b : ℕ) (r v : ℕ → ℕ) → a ≤ M * b → ((m : ℕ) → m < n → r m ≤ M * v m) → fold_to ◌+◌ a n r ≤ M * fold_to ◌+◌ b n v
fold_most zero M a b r v h each = h
fold_most (suc n) M a b r v h each =
    let first = each 0 (zero-lt-suc n) in
    fold_most n M (a + r 0) (b + v 0) (later r) (later v) (omega arith) (λ (m : ℕ) (below : m < n). each (suc m) (suc-le-suc below))

-- (up - down) / whole units
pub record Fraction : Type 0 where
  pub up : ℕ
  pub down : ℕ
  pub whole : ℕ

-- z is the exact fraction, but for error / whole of the 2 ^ prec-th part of a unit
pub record Image (f : Format) (z : Float) (exact : Fraction) (error : ℕ) : Type 0 where
  pub held : Held f z
  pub close : Within ((plus f z * exact.whole + exact.down) * 2 ^ prec f) ((minus f z * exact.whole + exact.up) * 2 ^ prec f) error

-- The weights of corners, and what they stand for: value m is near exact m parts, by so many roundings of bound m parts.
pub record Weights : Type 0 where
  pub value : ℕ → Float
  pub exact : ℕ → ℕ
  pub bound : ℕ → ℕ
  pub roundings : ℕ

abbrev pub estimate : Weights → ℕ → Estimate
estimate w m = record { exact = w.exact m; bound = w.bound m; roundings = w.roundings }

module _
    (s : Scale) (M n : ℕ) (w : Weights) (corner : ℕ → Float) (pos : 0 < s.whole) (few : s.spare ≤ fine s) (slack : Slack s w.roundings 0)
    (terms : (m : ℕ) → m < suc n → Term s M (w.value m) (corner m) (estimate w m))
  where
    abbrev bulk : ℕ
    bulk = gathered ◌+◌ n w.bound

    abbrev product : ℕ → Float
    product m = mul s.format (w.value m) (corner m)

    abbrev part : ℕ → Signed
    part m = weighted s.format (estimate w m) (corner m)

    abbrev sizes : ℕ → ℕ
    sizes m = (part m).bound

    abbrev exact : Fraction
    exact =
        record {
          up = gathered ◌+◌ n (λ (m : ℕ). (part m).up);
          down = gathered ◌+◌ n (λ (m : ℕ). (part m).down);
          whole = (of_products s).whole;
        }

    sizes_most : gathered ◌+◌ n sizes ≤ M * bulk
    sizes_most =
        fold_most n M (sizes 0) (w.bound 0) (later sizes) (later w.bound) (one 0 (zero-lt-suc n))
        (λ (m : ℕ) (below : m < n). one (suc m) (suc-le-suc below))
      where
        one : (m : ℕ) → m < suc n → w.bound m * size_in s.format (corner m) ≤ M * w.bound m
        one m below = omega (arith, mul-le-mul_left (w.bound m) (terms m below).most)

    each_near : (m : ℕ) → m < suc n → Near (of_products s) (product m) (part m)
    each_near m below = term_near s M pos slack (terms m below)

    abbrev all : ℕ
    all = cost s (n + suc w.roundings)

    pub image_near : (error : ℕ) → all ≤ s.spare * fine s → M * bulk * 4 ≤ overflow s.format * exact.whole → all * (M * bulk) ≤ error * fine s
        → Image s.format (gathered (add s.format) n product) exact error
    image_near error spare room small =
        let units = mul-pos pos (pow_pos (low s.format)) in
        let sum = sums_near (of_products s) units few n (later product) (later part) (λ (m : ℕ) (below : m < n). le_refl _) spare
        (le_trans (mul-le-mul_right 4 sizes_most) room) (each_near 0 (zero-lt-suc n)) (λ (m : ℕ) (below : m < n). each_near (suc m) (suc-le-suc below)) in
        let most = le_trans (mul-le-mul_left all sizes_most) small in
        record {
          held = sum.held;
          close = within_unscaled {m = fine s} (pow_pos (prec s.format)) (within_as (omega arith) (omega arith) refl (within_wider most sum.close));
        }
