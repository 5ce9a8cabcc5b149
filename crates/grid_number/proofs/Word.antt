-- What the fields of a word say of the float that it holds, and so of its grid number. Assumes nothing.
use Prim.Native.Nat.{ℕ, zero, suc, ◌+◌, ◌*◌, ◌/◌, ◌%◌, ◌^◌, ◌<◌, ◌≤◌}
use native.Mathlib.Nat.{eq-or-lt_of_le, le_refl, le_trans, lt_of_lt_of_le, lt_of_le_of_lt, mul-le-mul, mul-lt-mul_of_pos_right}
use native.Mathlib.Omega.{arith}
use mathlib.Core.Path.{◌≡◌, refl, ◌∙◌, subst, subst⁻¹}
use mathlib.Core.Logic.{inl, inr}
use mathlib.Core.Bool.{Bool, true, false, cond}
use lib.Dec.{T, eqb, leb, lit≤}
use lib.Pow.{pow-add, pow_pos, pow_mono, pow-lt}
use lib.Ieee.{Float, inf, nan, binary64, of_bits, of_fields}
use lib.Ieee.Exact.{odd_sign}
use lib.Ieee.Scale.{finite}
use borrow.Author.Tests.{ne_eqb, eqb-false}
use Rattle.answer.specs.Answer.{refused}
use Rattle.binary64.specs.Exact.{size, one}
use Rattle.rounding.proofs.Units.{Is, is_of_value}
use Rattle.grid_number.specs.Grid.{grid_number}
use Rattle.grid_number.proofs.Units.{by_units_lem, over}

-- the field of the exponent, the field of the digits, and the sign
abbrev exponent : ℕ → ℕ
exponent word = word % 2 ^ 63 / 2 ^ 52

abbrev fraction : ℕ → ℕ
fraction word = word % 2 ^ 52

abbrev negative : ℕ → Bool
negative word = leb (2 ^ 63) word

-- the bits of 1,024
abbrev pub limit : ℕ
limit = 0x4090_0000_0000_0000

-- a finite float of size at most 1,024
pub record Small (x : Float) : Type 0 where
  pub is_finite : T (finite x)
  pub few : size x ≤ 1024 * one

small_of : (x : Float) (s : Bool) (n : ℕ) → Is binary64 x s n → n ≤ 1024 * one → Small x
small_of x s n is few = record { is_finite = is.is_finite; few = subst⁻¹ (λ (n : ℕ). n ≤ 1024 * one) is.units few }

-- the sizes on either side of 1,024
short : (t : ℕ) → t < 2 ^ 52 → t * 2 ^ 0 ≤ 1024 * one
short t h = le_trans {m = 2 ^ 52} (omega arith) (lit≤ tt)

at_most : (x t : ℕ) → x * 2 ^ 52 + t ≤ 1032 * 2 ^ 52 → t < 2 ^ 52 → (2 ^ 52 + t) * 2 ^ x ≤ 1024 * one
at_most x t few h = elim (eq-or-lt_of_le {n = x} {m = 1032} (omega arith)) [ inl e ↦ equal e | inr l ↦ less l ]
  where
    equal : x ≡ 1032 → (2 ^ 52 + t) * 2 ^ x ≤ 1024 * one
    equal e =
        let none : t ≡ 0 = omega arith in
        rw (e, none) (lit≤ tt)

    less : x < 1032 → (2 ^ 52 + t) * 2 ^ x ≤ 1024 * one
    less l =
        le_trans (mul-le-mul {n₁ = 2 ^ 52 + t} {m₁ = 2 ^ x} {n₂ = 2 ^ 53} {m₂ = 2 ^ x} (omega arith) (le_refl (2 ^ x)))
        (subst (λ (n : ℕ). n ≤ 1024 * one) (pow-add 2 53 x) (le_trans (pow_mono {i = 53 + x} {j = 1084} (omega arith)) (lit≤ tt)))

beyond : (x t : ℕ) → 1032 * 2 ^ 52 < x * 2 ^ 52 + t → t < 2 ^ 52 → 1024 * one < (2 ^ 52 + t) * 2 ^ x
beyond x t many h = elim (eq-or-lt_of_le {n = 1032} {m = x} (omega arith)) [ inl e ↦ equal e | inr l ↦ more l ]
  where
    equal : 1032 ≡ x → 1024 * one < (2 ^ 52 + t) * 2 ^ x
    equal e =
        let some : 2 ^ 52 < 2 ^ 52 + t = omega arith in
        subst (λ (k : ℕ). 1024 * one < (2 ^ 52 + t) * 2 ^ k) e
        (lt_of_le_of_lt {m = 2 ^ 52 * 2 ^ 1032} (lit≤ tt) (mul-lt-mul_of_pos_right {k = 2 ^ 1032} some (pow_pos 1032)))

    more : 1032 < x → 1024 * one < (2 ^ 52 + t) * 2 ^ x
    more l =
        lt_of_le_of_lt {m = 2 ^ 1084} (lit≤ tt)
        (lt_of_lt_of_le (pow-lt {i = 1084} {j = 52 + x} (omega arith))
        (subst⁻¹ (λ (n : ℕ). n ≤ (2 ^ 52 + t) * 2 ^ x) (pow-add 2 52 x)
        (mul-le-mul {n₁ = 2 ^ 52} {m₁ = 2 ^ x} {n₂ = 2 ^ 52 + t} {m₂ = 2 ^ x} (omega arith) (le_refl (2 ^ x)))))

module _ (word : ℕ) where
  abbrev float : Float
  float = of_bits binary64 word

  -- an exponent of 0 has no leading digit
  subnormal : exponent word ≡ 0 → Is binary64 float (negative word) (fraction word * 2 ^ 0)
  unfolding of_bits of_fields
  subnormal e = rw e (is_of_value binary64 _ (negative word) (fraction word * 2 ^ 0) (odd_sign 53 (negative word) (fraction word) 0 1074))

  normal : (x : ℕ) → exponent word ≡ suc x → suc x < 2047 → Is binary64 float (negative word) ((2 ^ 52 + fraction word) * 2 ^ x)
  unfolding of_bits of_fields
  normal x e less =
      rw (e, ne_eqb (suc x) 2047 (λ q. omega arith))
      (is_of_value binary64 _ (negative word) ((2 ^ 52 + fraction word) * 2 ^ x) (odd_sign 53 (negative word) (2 ^ 52 + fraction word) x 1074))

  pub small : word % 2 ^ 63 ≤ limit → Small float
  small few = by (exponent word) refl
    where
      by : (e : ℕ) → exponent word ≡ e → Small float
      by zero is = small_of float (negative word) _ (subnormal is) (short (fraction word) (omega arith))
      by (suc x) is =
          let place : x * 2 ^ 52 + fraction word ≤ 1032 * 2 ^ 52 = omega arith in
          small_of float (negative word) _ (normal x is (omega arith)) (at_most x (fraction word) place (omega arith))

  -- an infinity, and a NaN
  endless : (x : ℕ) → exponent word ≡ suc x → eqb (suc x) 2047 ≡ true → grid_number float ≡ refused 15
  unfolding of_bits of_fields grid_number
  endless x is last = rw (is, last) (by (eqb (fraction word) 0))
    where
      by : (b : Bool) → grid_number (cond b (inf (negative word)) nan) ≡ refused 15
      by true = refl
      by false = refl

  -- a finite float over 1,024
  finite_more : (x : ℕ) → exponent word ≡ suc x → limit < word % 2 ^ 63 → eqb (suc x) 2047 ≡ false → grid_number float ≡ refused 15
  finite_more x is more finite =
      let field : exponent word < 2048 = omega arith in
      let place : 1032 * 2 ^ 52 < x * 2 ^ 52 + fraction word = omega arith in
      by_units_lem float (negative word) _ (normal x is (omega (arith, field, is, eqb-false (suc x) 2047 finite)))
      ∙ over one (negative word) _ (beyond x (fraction word) place (omega arith))

  -- all of these
  pub of_more : limit < word % 2 ^ 63 → grid_number float ≡ refused 15
  of_more large = by (exponent word) refl
    where
      by : (e : ℕ) → exponent word ≡ e → grid_number float ≡ refused 15
      by zero is = absurd (omega arith)
      by (suc x) is =
          elim (eqb (suc x) 2047) as (λ b. eqb (suc x) 2047 ≡ b → grid_number float ≡ refused 15) [ true ↦ endless x is | false ↦ finite_more x is large ] refl
