-- The product of two values, each near an exact size, is near the product of the sizes, with one rounding more. Assumes nothing.
use Prim.Native.Nat.{ℕ, suc, ◌+◌, ◌-◌, ◌*◌, ◌^◌, ◌≤◌, ◌<◌}
use native.Mathlib.Nat.{le_trans, le_of_eq, mul-le-mul, mul-le-mul_right, mul-le-mul_left, le_of_mul-le-mul_right, mul-pos, mul-zero}
use native.Mathlib.Omega.{arith}
use mathlib.Core.Path.{◌≡◌, refl, ap, ◌∙◌}
use mathlib.Core.Logic.{◌⊎◌, inl, inr}
use lib.Arith.{le-zero}
use lib.Pow.{pow_pos}
use lib.Ieee.{Float, Format, prec, low, unlike, mul}
use lib.Ieee.Fits.{mul-fits}
use lib.Ieee.Scale.{overflow}
use Rattle.binary64.specs.Exact.{size_in, is_negative}
use Rattle.rounding.proofs.Within.{Within, within_as, within_trans, within_wider, within_scaled, within_unscaled}
use Rattle.rounding.proofs.Mul.{mul_near}
use Rattle.rounding.proofs.Estimate.{Scale, over, fine, cost, Estimate, Sized, Times, times, square}

-- What `spare` has to leave room for. With errors of e and e' parts in c, (1 + e / c) (1 + e' / c) (1 + 1 / B) is at most 1 + the error of one rounding more.
pub record Slack (s : Scale) (i j : ℕ) : Type 0 where
  pub growth : let B = fine s in let c = B * B in (c + cost s i) * (c + cost s j) * (B + 1) ≤ (c + cost s (suc (i + j))) * (c * B)
  pub left : cost s i ≤ fine s * fine s
  pub right : cost s j ≤ fine s * fine s

-- ---- in numbers: x and y are what they stand for but for e parts in c of the one's bound, and e' parts of the other's
module _
    (c e e' x y : ℕ) (a b : Estimate) (X : Within (x * c) (a.exact * c) (e * a.bound)) (Y : Within (y * c) (b.exact * c) (e' * b.bound))
    (x_most : a.exact ≤ a.bound) (y_most : b.exact ≤ b.bound)
  where
    x_bound : x * c ≤ (c + e) * a.bound
    x_bound = omega (arith, mul-le-mul_right c x_most)

    y_bound : y * c ≤ (c + e') * b.bound
    y_bound = omega (arith, mul-le-mul_right c y_most)

    product_bound : x * y * (c * c) ≤ (c + e) * (c + e') * (a.bound * b.bound)
    product_bound = le_trans (le_of_eq (omega arith)) (le_trans (mul-le-mul x_bound y_bound) (le_of_eq (omega arith)))

    x_moved : Within (x * c * (y * c)) (a.exact * c * (y * c)) (e * a.bound * ((c + e') * b.bound))
    x_moved = within_wider (mul-le-mul_left (e * a.bound) y_bound) (within_scaled (y * c) X)

    y_moved : Within (y * c * (a.exact * c)) (b.exact * c * (a.exact * c)) (e' * b.bound * (a.bound * c))
    y_moved = within_wider (mul-le-mul_left (e' * b.bound) (mul-le-mul_right c x_most)) (within_scaled (a.exact * c) Y)

    product_close : Within (x * y * (c * c)) (a.exact * b.exact * (c * c)) ((e * (c + e') + c * e') * (a.bound * b.bound))
    product_close = within_as (omega arith) (omega arith) (omega arith) (within_trans x_moved (within_as (omega arith) refl refl y_moved))

-- z is n but for one rounding of it, and n is the product q of the exact sizes but for what the two errors make of it
rounded_close : (B c e e' H z n q S : ℕ) → 0 < c * B → (c + e) * (c + e') * (B + 1) ≤ (c + H) * (c * B)
    → Within (z * (c * c) * B) (n * B) ((c + e) * (c + e') * S) → Within n (q * (c * c)) ((e * (c + e') + c * e') * S) → Within (z * c) (q * c) (H * S)
rounded_close B c e e' H z n q S pos growth v w =
    within_unscaled {m = c * B} pos (omega (arith, mul-le-mul_right B w.over, mul-le-mul_right B w.under, mul-le-mul_right S growth))

room_enough : (c e e' S O d : ℕ) → e ≤ c → e' ≤ c → S * 8 ≤ O * d → (c + e) * (c + e') * S * 2 ≤ O * (d * (c * c))
room_enough c e e' S O d left right room =
    let growth : (c + e) * (c + e') ≤ 2 * c * (2 * c) = mul-le-mul (omega arith) (omega arith) in
    omega (arith, mul-le-mul_right S growth, mul-le-mul_right (c * c) room)

regroup : (z l d c B : ℕ) → z * (l * (d * c)) * B ≡ z * (d * l) * c * B
regroup z l d c B = omega arith

-- ---- of values
module _
    (s : Scale) (d' : ℕ) {x y : Float} {a b : Estimate} (pos : 0 < s.whole) (pos' : 0 < d') (X : Sized s x a) (Y : Sized (over s d') y b)
  where
    abbrev f : Format
    f = s.format

    abbrev d : ℕ
    d = s.whole

    abbrev c : ℕ
    c = fine s * fine s

    abbrev e : ℕ
    e = cost s a.roundings

    abbrev e' : ℕ
    e' = cost s b.roundings

    abbrev z : Estimate
    z = times a b

    -- the scale in which everything is whole
    abbrev D : ℕ
    D = d * d' * (c * c)

    c_pos : 0 < c
    c_pos = mul-pos (pow_pos (prec f)) (pow_pos (prec f))

    D-pos : 0 < D
    D-pos = mul-pos (mul-pos pos pos') (mul-pos c_pos c_pos)

    abbrev n : ℕ
    n = size_in f x * size_in f y

    abbrev w : ℕ
    w = (c + e) * (c + e') * z.bound

    most : n * D ≤ w
    most =
        le_trans (le_of_eq (omega arith))
        (product_bound c e e' (size_in f x * d) (size_in f y * d') a b X.close Y.close X.bounded Y.bounded)

    abbrev Normal : Type 0
    Normal = (z.bound ≡ 0) ⊎ (2 ^ (prec f - 1) * 2 ^ low f * (d * d') ≤ z.bound)

    enough : Normal → (n ≡ 0) ⊎ (2 ^ (prec f - 1) * 2 ^ low f * D ≤ w)
    enough (inl none) =
        let nothing : w ≡ 0 = ap (λ (x : ℕ). (c + e) * (c + e') * x) none ∙ mul-zero ((c + e) * (c + e')) in
        inl (le-zero (le_of_mul-le-mul_right {k = D} (omega (arith, most)) D-pos))
    enough (inr normal) = inr (omega (arith, mul-le-mul_right (c * c) normal))

    -- the product's own size Z
    moved : (Z : ℕ) → Slack s a.roundings b.roundings → Within (Z * (2 ^ low f * D) * fine s) (n * D * fine s) w
        → Within (Z * (d * d' * 2 ^ low f) * c) (z.exact * c) (cost s z.roundings * z.bound)
    moved Z slack near =
        let exact = product_close c e e' (size_in f x * d) (size_in f y * d') a b X.close Y.close X.bounded Y.bounded in
        rounded_close (fine s) c e e' (cost s z.roundings) (Z * (d * d' * 2 ^ low f)) (n * D) z.exact z.bound (mul-pos c_pos (pow_pos (prec f)))
        slack.growth (within_as (regroup Z (2 ^ low f) (d * d') (c * c) (fine s)) refl refl near) (within_as (omega arith) refl refl exact)

    pub product_sized : Slack s a.roundings b.roundings → z.bound * 8 ≤ overflow f * 2 ^ low f * (d * d') → Normal
        → Times (square s d') (mul f x y) (unlike (is_negative x) (is_negative y)) (times a b)
    product_sized slack room normal =
        let fits_in = room_enough c e e' z.bound (overflow f * 2 ^ low f) (d * d') slack.left slack.right room in
        let product = mul_near f x y D w X.held Y.held D-pos fits_in most (enough normal) in
        record {
          sized = record {
            held = record { in_format = mul-fits f x y; is_finite = product.is_finite };
            close = moved (size_in f (mul f x y)) slack product.close;
            bounded = mul-le-mul X.bounded Y.bounded;
          };
          sign_is = product.sign;
        }
