-- Between 2 ^ (prec - 1) and 2 ^ prec every float is a whole number. So where a number is added to one of these and it is taken off again, a whole number
-- is left, and the same number where it was whole. Assumes nothing.
use Prim.Native.Nat.{ℕ, suc, ◌+◌, ◌-◌, ◌*◌, ◌/◌, ◌%◌, ◌^◌, ◌≤◌, ◌<◌, compare}
use native.Mathlib.Nat.{le_trans, lt_of_not-le, not-le_of_lt, lt_of_lt_of_le, lt_of_le_of_lt, le_of_mul-le-mul_right, mul-le-mul_right}
use native.Mathlib.Nat.{mul-pos, mul-one, one-mul, mul_assoc, mul-div_cancel, div-one, mod-one, le-div_iff_mul-le, div-lt_iff_lt-mul, zero-lt-suc}
use native.Mathlib.Omega.{arith}
use mathlib.Core.Path.{◌≡◌, refl, sym, ◌∙◌, ap, subst}
use mathlib.Core.Bool.{Bool, true, false, not, cond}
use lib.Dec.{T, ltb, ltb→lt, nltb→le, lit<}
use lib.IntN.{ℤ, pos, negsuc}
use lib.Pow.{pow-add, pow_pos, pow_mono, pow-lt}
use lib.Ieee.{Float, Format, binary32, binary64, prec, emax, low, size, units, round, sum, add, of_int}
use lib.Ieee.Digits.{size-lt, size-le}
use lib.Ieee.Exact.{HasValue, units_val}
use lib.Ieee.Fits.{core, round_is, nearest-le, two, two-le_pos}
use lib.Ieee.Nearest.{closest, closest_same, nearest-ge}
use borrow.Author.Tests.{lt-ltb}
use Rattle.rounding.proofs.Units.{gain, loss}
use Rattle.rounding.proofs.Add.{add_units, sum_scaled}

-- ---- whole numbers among fractions
closest_whole : (q l : ℕ) → 0 < l → closest (q * l) l ≡ q
closest_whole q l some = closest_same (q * l) l q 1 some (zero-lt-suc 0) (mul-one (q * l)) ∙ alone q
  where
    alone : (q : ℕ) → closest q 1 ≡ q
    alone q = rw (div-one q, mod-one q) refl

size_gt : (n j : ℕ) → 2 ^ j ≤ n → j < size n
size_gt n j h = lt_of_not-le (λ (g : size n ≤ j). not-le_of_lt (lt_of_lt_of_le (size-lt n) (pow_mono g)) h)

room : (f : Format) → prec f < suc (emax f)
room binary32 = lit< tt
room binary64 = lit< tt

-- ---- n / 2 ^ low rounded, where that is between the two
module _ (f : Format) (n : ℕ) (least : 2 ^ (prec f - 1) * 2 ^ low f ≤ n) (less : n < 2 ^ prec f * 2 ^ low f) where
  abbrev l : ℕ
  l = 2 ^ low f

  dropped : size (n * l / l) - prec f ≡ low f
  dropped =
      ap (λ (k : ℕ). size k - prec f) (mul-div_cancel n (pow_pos (low f)))
      ∙ between (size n) (prec f) (low f) (two-le_pos (prec f) (two f))
      (size_gt n (prec f - 1 + low f) (subst (λ (k : ℕ). k ≤ n) (sym (pow-add 2 (prec f - 1) (low f))) least))
      (size-le n (prec f + low f) (subst (λ (k : ℕ). n < k) (sym (pow-add 2 (prec f) (low f))) less))
    where
      between : (z p k : ℕ) → 0 < p → p - 1 + k < z → z ≤ p + k → z - p ≡ k
      between z p k some more most = omega arith

  rounds : round f false n l ≡ units f false (closest n l) (low f)
  rounds =
      round_is f false n l
      ∙ ap (λ (k : ℕ). core f false (n * l) l k) dropped
      ∙ ap (λ (g : ℕ). units f false g (low f))
      (closest_same (n * l) (l * l) n l (mul-pos (pow_pos (low f)) (pow_pos (low f))) (pow_pos (low f)) (mul_assoc n l l))

  closest_least : 2 ^ (prec f - 1) ≤ closest n l
  closest_least = le_trans ((le-div_iff_mul-le (pow_pos (low f))).1 least) (nearest-ge (n / l) (compare (n % l * 2) l))

  closest_most : closest n l ≤ 2 ^ prec f
  closest_most = le_trans (nearest-le (n / l) (compare (n % l * 2) l)) ((div-lt_iff_lt-mul (pow_pos (low f))).1 less)

  closest_value : HasValue (round f false n l) false (closest n l * l) l
  closest_value = subst (λ (z : Float). HasValue z false (closest n l * l) l) (sym rounds) (units_val f false (closest n l) (low f) top)
    where
      under : (p k e : ℕ) → p < suc e → p + k < k + suc e
      under p k e h = omega arith

      top : closest n l * l < 2 ^ (low f + suc (emax f))
      top =
          lt_of_le_of_lt (mul-le-mul_right l closest_most)
          (subst (λ (k : ℕ). k < 2 ^ (low f + suc (emax f))) (pow-add 2 (prec f) (low f)) (pow-lt (under (prec f) (low f) (emax f) (room f))))

-- ---- n units with the sign s, added to b ones
pub record PutOn (f : Format) (s : Bool) (n b : ℕ) (z : Float) : Type 0 where
  pub whole : ℕ
  pub least : 2 ^ (prec f - 1) ≤ whole
  pub most : whole ≤ 2 ^ prec f
  pub value : HasValue z false (whole * 2 ^ low f) (2 ^ low f)
  pub exact : (q : ℕ) → n ≡ q * 2 ^ low f → whole + loss s q ≡ b + gain s q

abbrev moved : Bool → ℕ → ℕ → ℕ
moved true n m = m - n
moved false n m = n + m

moved_sum : (f : Format) (s : Bool) (n m l : ℕ) → n < m → sum f s n false m l ≡ round f false (moved s n m) l
unfolding sum
moved_sum f true n m l h = rw (lt-ltb n m h) refl
moved_sum f false n m l h = refl

module _ (f : Format) (n b : ℕ) (under : 2 ^ (prec f - 1) * 2 ^ low f + n ≤ b * 2 ^ low f) (below : n + b * 2 ^ low f < 2 ^ prec f * 2 ^ low f) where
  moved_least : (s : Bool) → 2 ^ (prec f - 1) * 2 ^ low f ≤ moved s n (b * 2 ^ low f)
  moved_least s = by s (2 ^ (prec f - 1) * 2 ^ low f) (b * 2 ^ low f) under
    where
      by : (s : Bool) (k m : ℕ) → k + n ≤ m → k ≤ moved s n m
      by true k m h = omega arith
      by false k m h = omega arith

  moved_less : (s : Bool) → moved s n (b * 2 ^ low f) < 2 ^ prec f * 2 ^ low f
  moved_less s = by s (2 ^ prec f * 2 ^ low f) (b * 2 ^ low f) below
    where
      by : (s : Bool) (k m : ℕ) → n + m < k → moved s n m < k
      by true k m h = omega arith
      by false k m h = omega arith

  moved_whole : (s : Bool) (q : ℕ) → n ≡ q * 2 ^ low f → closest (moved s n (b * 2 ^ low f)) (2 ^ low f) + loss s q ≡ b + gain s q
  moved_whole s q e = by s (2 ^ low f) (pow_pos (low f)) e (few (2 ^ (prec f - 1) * 2 ^ low f) (b * 2 ^ low f) under)
    where
      few : (k m : ℕ) → k + n ≤ m → n ≤ m
      few k m h = omega arith

      by : (s : Bool) (l : ℕ) → 0 < l → n ≡ q * l → n ≤ b * l → closest (moved s n (b * l)) l + loss s q ≡ b + gain s q
      by true l some e h =
          let fewer : q ≤ b = le_of_mul-le-mul_right {k = l} (omega arith) some in
          let is : b * l - n ≡ (b - q) * l = omega (arith, ap (λ (k : ℕ). k * l) (parts fewer)) in
          ap (λ (k : ℕ). closest k l + q) is ∙ ap (λ (k : ℕ). k + q) (closest_whole (b - q) l some) ∙ omega arith
        where
          parts : q ≤ b → b ≡ b - q + q
          parts h = omega arith
      by false l some e h =
          let is : n + b * l ≡ (b + q) * l = omega arith in
          ap (λ (k : ℕ). closest k l + 0) is ∙ ap (λ (k : ℕ). k + 0) (closest_whole (b + q) l some) ∙ omega arith

  pub put_on : (x y : Float) (s : Bool) → HasValue x s n (2 ^ low f) → HasValue y false (b * 2 ^ low f) (2 ^ low f) → n < b * 2 ^ low f
      → PutOn f s n b (add f x y)
  put_on x y s p q less =
      let m = moved s n (b * 2 ^ low f) in
      let is : add f x y ≡ round f false m (2 ^ low f) = add_units f x y s false n (b * 2 ^ low f) p q ∙ moved_sum f s n (b * 2 ^ low f) (2 ^ low f) less in
      subst (PutOn f s n b) (sym is) record {
        whole = closest m (2 ^ low f);
        least = closest_least f m (moved_least s) (moved_less s);
        most = closest_most f m (moved_least s) (moved_less s);
        value = closest_value f m (moved_least s) (moved_less s);
        exact = moved_whole s;
      }

-- ---- b ones taken off g ones
abbrev pub Apart : ℕ → ℕ → ℤ → Type 0
Apart g b (pos p) = g ≡ b + p
Apart g b (negsuc k) = g + suc k ≡ b

pub record TakenOff (f : Format) (g b : ℕ) (z : Float) : Type 0 where
  pub number : ℤ
  pub is : z ≡ of_int f number
  pub apart : Apart g b number

difference : (f : Format) (g b : ℕ) (t : Bool) → (T t → g < b) → (T (not t) → b ≤ g)
    → TakenOff f g b (cond t (round f true (b - g) 1) (round f false (g - b) 1))
unfolding of_int
difference f g b true less more =
    let h = less tt in
    let some : b - g ≡ suc (b - suc g) = omega arith in
    record { number = negsuc (b - suc g); is = ap (λ (n : ℕ). round f true n 1) some; apart = omega arith }
difference f g b false less more =
    let h = more tt in
    record { number = pos (g - b); is = refl; apart = omega arith }

difference_sum : (f : Format) (g b : ℕ) → TakenOff f g b (sum f false g true b 1)
unfolding sum
difference_sum f g b = difference f g b (ltb g b) (ltb→lt g b) (nltb→le g b)

pub take_off : (f : Format) (x y : Float) (g b : ℕ) → HasValue x false (g * 2 ^ low f) (2 ^ low f) → HasValue y true (b * 2 ^ low f) (2 ^ low f)
    → TakenOff f g b (add f x y)
take_off f x y g b p q =
    let l = 2 ^ low f in
    subst (TakenOff f g b)
    (sym (add_units f x y false true (g * l) (b * l) p q
    ∙ ap (λ (c : ℕ). sum f false (g * l) true (b * l) c) (sym (one-mul l))
    ∙ sum_scaled f false g true b 1 l (zero-lt-suc 0) (pow_pos (low f))))
    (difference_sum f g b)
