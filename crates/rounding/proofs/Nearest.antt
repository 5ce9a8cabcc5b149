-- How far rounding moves a fraction: a format that keeps p digits moves n / c by at most one part in 2 ^ p of itself, or by half of one. Assumes nothing.
use Prim.Native.Nat.{ℕ, ◌+◌, ◌-◌, ◌*◌, ◌/◌, ◌%◌, ◌^◌, ◌≤◌, ◌<◌, compare, Ordering}
use native.Mathlib.Nat.{le_trans, le_of_eq, le-div_iff_mul-le, div-add-mod', mod-lt, mul-le-mul_right, mul-pos, pow-succ'}
use native.Mathlib.Omega.{arith}
use mathlib.Core.Path.{◌≡◌, sym, ap, ◌∙◌, subst}
use mathlib.Core.Bool.{Bool, true, false, not}
use lib.Dec.{T, is_le, compare_is_eq, leb, leb→le, nleb→lt, eqb→eq}
use lib.Pow.{pow-add, pow_pos}
use lib.Ieee.{size, nearest}
use lib.Ieee.Digits.{size_reaches}
use lib.Ieee.Nearest.{closest}
use lib.Ieee.Order.{drop, kept}
use Rattle.rounding.proofs.Within.{Within, within_as, within_scaled, within_wider}

-- ---- the whole number nearest to q + r / b, a tie to the even one, is at most a half from it
module _ (q r b : ℕ) where
  tie_small : q % 2 ≤ 1
  tie_small = omega arith

  nearest_half : (o : Ordering) → (T (is_le o) → r * 2 ≤ b) → (T (not (is_le o)) → b < r * 2) → (T (compare_is_eq o) → r * 2 ≡ b) → r < b
      → Within (nearest q o * b * 2) ((q * b + r) * 2) b
  nearest_half Ordering.lt le gt eq below = let h = le tt in omega arith
  nearest_half Ordering.eq le gt eq below = let h = eq tt in omega (arith, mul-le-mul_right b tie_small)
  nearest_half Ordering.gt le gt eq below = let h = gt tt in omega arith

closest_half : (a b : ℕ) → 0 < b → Within (closest a b * b * 2) (a * 2) b
closest_half a b pos =
    let r = a % b in
    subst (λ (x : ℕ). Within (closest a b * b * 2) (x * 2) b) (div-add-mod' a b)
    (nearest_half (a / b) r b (compare (r * 2) b) (leb→le (r * 2) b) (nleb→lt (r * 2) b) (eqb→eq (r * 2) b) (mod-lt a pos))

pub two_halves : (p : ℕ) → 0 < p → 2 * 2 ^ (p - 1) ≡ 2 ^ p
two_halves p digits = sym (pow-succ' 2 (p - 1)) ∙ ap (λ (x : ℕ). 2 ^ x) (omega arith)

-- ---- n / c with p digits kept, off by at most w / c of a 2 ^ p-th part, for any w that is no less than n and than half of 2 ^ p parts
module _ (p n c w : ℕ) (digits : 0 < p) (pos : 0 < c) (most : n ≤ w) (least : 2 ^ (p - 1) * c ≤ w) where
  abbrev k : ℕ
  k = drop p n c

  -- what is dropped is at most one of the units that are kept
  half_dropped : c * 2 ^ k * 2 ^ (p - 1) ≤ w
  half_dropped = go (leb (size (n / c)) p) (leb→le (size (n / c)) p) (nleb→lt (size (n / c)) p)
    where
      go : (b : Bool) → (T b → size (n / c) ≤ p) → (T (not b) → p < size (n / c)) → c * 2 ^ k * 2 ^ (p - 1) ≤ w
      go true few many =
          let h = few tt in
          let none : k ≡ 0 = omega arith in
          subst (λ (j : ℕ). c * 2 ^ j * 2 ^ (p - 1) ≤ w) (sym none) (omega arith)
      go false few many =
          let h = many tt in
          let reached : 2 ^ (p - 1 + k) ≤ n / c = size_reaches (n / c) (p - 1 + k) (omega arith) in
          let filled : 2 ^ (p - 1) * 2 ^ k * c ≤ n = (le-div_iff_mul-le pos).0 (le_trans (le_of_eq (sym (pow-add 2 (p - 1) k))) reached) in
          omega arith

  pub kept_near : Within (kept p n c * 2 ^ k * c * 2 ^ p) (n * 2 ^ p) w
  kept_near =
      let near = within_scaled (2 ^ (p - 1)) (closest_half n (c * 2 ^ k) (mul-pos pos (pow_pos k))) in
      subst (λ (x : ℕ). Within (kept p n c * 2 ^ k * c * x) (n * x) w) (two_halves p digits)
      (within_as (omega arith) (omega arith) (omega arith) (within_wider half_dropped near))
