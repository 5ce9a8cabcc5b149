-- A number that is given by its bits has these bits and no other. Assumes nothing.
use Prim.Native.Nat.{ℕ, zero, suc, ◌+◌, ◌-◌, ◌*◌, ◌/◌, ◌%◌, ◌^◌, ◌<◌}
use native.Mathlib.Nat.{not-suc-le-zero, le_of_suc-le-suc, eq-or-lt_of_le, two-pow-succ, mod-lt}
use native.Mathlib.Numerals.{add-one}
use native.Mathlib.Omega.{arith}
use mathlib.Core.Path.{◌≡◌, sym, ap, ◌∙◌}
use mathlib.Core.Bool.{Bool, true, false, cond}
use mathlib.Core.Logic.{⊎_elim}
use lib.Dec.{eqb, lit<}
use lib.Bits.{bit_and, bit_or, and_mask, or_shifted_r}
use lib.Pow.{high, low, field, mod-mod-pow, shl_exact}
use Rattle.numbers.specs.Bits.{bit, with_bits}

-- one more bit on top
one_more : (b : Bool) (n w : ℕ) → w < 2 ^ n → cond b 1 0 * 2 ^ n + w < 2 ^ suc n
one_more true n w h = omega (arith, two-pow-succ n)
one_more false n w h = omega (arith, two-pow-succ n)

pub with_bits_below : (n : ℕ) (p : ℕ → Bool) → with_bits n p < 2 ^ n
with_bits_below zero p = omega arith
with_bits_below (suc n) p = one_more (p n) n (with_bits n p) (with_bits_below n p)

top_bit : (b : Bool) (n w : ℕ) → w < 2 ^ n → bit (cond b 1 0 * 2 ^ n + w) n ≡ b
top_bit true n w h = rw (high 1 n h)
top_bit false n w h = rw (high 0 n h)

-- what is left of x below 2 ^ n has the same lower bits
left_bit : (x n k : ℕ) → k < n → bit (x % 2 ^ n) k ≡ bit x k
left_bit x n k below =
    let split : n ≡ n - (k + 1) + 1 + k = omega arith in
    ap (λ (m : ℕ). bit (x % 2 ^ m) k) split
    ∙ ap (λ (m : ℕ). eqb (m % 2) 1) (field x (n - (k + 1) + 1) k)
    ∙ ap (λ (m : ℕ). eqb m 1) (mod-mod-pow (x / 2 ^ k) (n - (k + 1)) 1)

lower_bit : (d n w k : ℕ) → w < 2 ^ n → k < n → bit (d * 2 ^ n + w) k ≡ bit w k
lower_bit d n w k h below = sym (left_bit (d * 2 ^ n + w) n k below) ∙ ap (λ (m : ℕ). bit m k) (low d n h)

pub bit_of_with_bits : (n : ℕ) (p : ℕ → Bool) (k : ℕ) → k < n → bit (with_bits n p) k ≡ p k
bit_of_with_bits zero p k h = absurd (not-suc-le-zero h)
bit_of_with_bits (suc n) p k h =
    ⊎_elim
    (λ (e : k ≡ n). rw e (top_bit (p n) n (with_bits n p) (with_bits_below n p)))
    (λ (below : k < n). lower_bit (cond (p n) 1 0) n (with_bits n p) k (with_bits_below n p) below ∙ bit_of_with_bits n p k below)
    (eq-or-lt_of_le (le_of_suc-le-suc h))

-- a bit more on top, as code of w bits sets it, and as it leaves it clear
pub with_bit_set : (w n : ℕ) (p : ℕ → Bool) → n < w → p n ≡ true → bit_or (with_bits n p) ((1 * 2 ^ n) % 2 ^ w) ≡ with_bits (n + 1) p
with_bit_set w n p fits passes =
    rw (shl_exact 1 n w (lit< tt) (omega arith), or_shifted_r 1 n (with_bits n p) (with_bits_below n p), add-one) (simp passes)

pub with_bit_clear : (n : ℕ) (p : ℕ → Bool) → p n ≡ false → with_bits n p ≡ with_bits (n + 1) p
with_bit_clear n p fails = rw add-one (simp fails (omega arith))

-- a bit, as code reads it
bit_read : (x k : ℕ) → bit_and (x / 2 ^ k) 1 ≡ x / 2 ^ k % 2
bit_read x k = and_mask (x / 2 ^ k) 1

pub bit_clear : (x k : ℕ) → bit_and (x / 2 ^ k) 1 ≡ 0 → bit x k ≡ false
bit_clear x k clear = rw (sym (bit_read x k) ∙ clear)

pub bit_set : (x k : ℕ) → (bit_and (x / 2 ^ k) 1 ≡ 0 → ⊥) → bit x k ≡ true
bit_set x k set =
    let digit : x / 2 ^ k % 2 < 2 = mod-lt (x / 2 ^ k) (lit< tt) in
    let nonzero : x / 2 ^ k % 2 ≡ 0 → ⊥ = λ e. set (bit_read x k ∙ e) in
    let one : x / 2 ^ k % 2 ≡ 1 = omega arith in
    rw one
