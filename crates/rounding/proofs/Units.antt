-- A finite float that its format holds is a whole number of units, `size_in`, with its sign. Assumes nothing.
use Prim.Native.Nat.{ℕ, zero, suc, ◌+◌, ◌-◌, ◌*◌, ◌/◌, ◌^◌, ◌≤◌, ◌<◌}
use native.Mathlib.Nat.{le_trans, le_of_eq, le_of_suc-le-suc, lt_of_not-le, not-le_of_lt, mul-div_cancel, div-lt_iff_lt-mul}
use native.Mathlib.Nat.{mul_assoc, mul_comm, mul_right_comm, mul-one, one-mul, zero-mul, mul-pos, mul-lt-mul_of_pos_right}
use mathlib.Core.Path.{◌≡◌, refl, sym, ap, ◌∙◌, subst}
use mathlib.Core.Bool.{Bool, true, false, not, cond}
use lib.IntN.{ℤ, pos, negsuc}
use lib.Dec.{T, leb→le, ltb→lt, eqb→eq}
use lib.Pow.{pow-add, pow_pos, pow-lt}
use lib.Ieee.{Float, nan, inf, fin, Format, prec, emax, low, unlike, up, down, neg, fits}
use lib.Ieee.Digits.{back}
use lib.Ieee.Exact.{HasValue}
use lib.Ieee.Fits.{down_pos, and_l, and_r, neg-fits}
use lib.Ieee.Scale.{finite, overflow}
use Rattle.binary64.specs.Exact.{size_in, is_negative}

-- a finite value that the format holds
pub record Held (f : Format) (x : Float) : Type 0 where
  pub in_format : T (fits f x)
  pub is_finite : T (finite x)

-- a finite value with the sign s and n units in size
pub record Is (f : Format) (x : Float) (s : Bool) (n : ℕ) : Type 0 where
  pub is_finite : T (finite x)
  pub sign : is_negative x ≡ s
  pub units : size_in f x ≡ n

pub is_of_value : (f : Format) (x : Float) (s : Bool) (n : ℕ) → HasValue x s n (2 ^ low f) → Is f x s n
unfolding size_in is_negative
is_of_value f nan s n v = absurd v
is_of_value f (inf t) s n v = absurd v
is_of_value f (fin t m e) s n v =
    record {
      is_finite = tt;
      sign = v.0;
      units = ap (λ (x : ℕ). x / down e) v.1 ∙ mul-div_cancel n (down_pos e);
    }

-- 2 ^ e is 2 ^ places units, where the format reaches down to it
abbrev places : Format → ℤ → ℕ
places f (pos k) = k + low f
places f (negsuc k) = low f - suc k

exponent_le : (i j : ℕ) → 2 ^ i ≤ 2 ^ j → i ≤ j
exponent_le i j h = le_of_suc-le-suc (lt_of_not-le (λ (more : suc j ≤ i). not-le_of_lt (pow-lt more) h))

places_value : (f : Format) (e : ℤ) → down e ≤ 2 ^ low f → 2 ^ places f e * down e ≡ up e * 2 ^ low f
places_value f (pos k) reached = mul-one (2 ^ (k + low f)) ∙ pow-add 2 k (low f)
places_value f (negsuc k) reached =
    sym (pow-add 2 (low f - suc k) (suc k))
    ∙ ap (λ (x : ℕ). 2 ^ x) (back (low f) (suc k) (exponent_le (suc k) (low f) reached))
    ∙ sym (one-mul (2 ^ low f))

fits_reached : (f : Format) (s : Bool) (m : ℕ) (e : ℤ) → T (fits f (fin s m e)) → down e ≤ 2 ^ low f
unfolding fits
fits_reached f s zero (pos k) t = pow_pos (low f)
fits_reached f s zero (negsuc k) t = le_trans (le_of_eq (sym (one-mul (2 ^ suc k)) ∙ eqb→eq (1 * 2 ^ suc k) 1 t)) (pow_pos (low f))
fits_reached f s (suc m) e t = leb→le (down e) (2 ^ low f) (search (and_l, and_r))

fits_digits : (f : Format) (s : Bool) (m : ℕ) (e : ℤ) → T (fits f (fin s m e)) → m < 2 ^ prec f
unfolding fits
fits_digits f s zero e t = pow_pos (prec f)
fits_digits f s (suc m) e t = ltb→lt (suc m) (2 ^ prec f) (search (and_l, and_r))

module _ (f : Format) (s : Bool) (m : ℕ) (e : ℤ) (held : T (fits f (fin s m e))) where
  undivided : m * up e * 2 ^ low f ≡ m * 2 ^ places f e * down e
  undivided =
      mul_assoc m (up e) (2 ^ low f)
      ∙ ap (λ (x : ℕ). m * x) (sym (places_value f e (fits_reached f s m e held)))
      ∙ sym (mul_assoc m (2 ^ places f e) (down e))

  divided : m * up e * 2 ^ low f / down e ≡ m * 2 ^ places f e
  divided = ap (λ (x : ℕ). x / down e) undivided ∙ mul-div_cancel (m * 2 ^ places f e) (down_pos e)

pub own_value : (f : Format) (x : Float) → Held f x → HasValue x (is_negative x) (size_in f x) (2 ^ low f)
unfolding size_in is_negative
own_value f nan h = absurd h.is_finite
own_value f (inf s) h = absurd h.is_finite
own_value f (fin s m e) h =
    (refl, undivided f s m e h.in_format ∙ ap (λ (x : ℕ). x * down e) (sym (divided f s m e h.in_format)))

-- its units are a significand of at most `prec` digits times a power of two
pub record Digits (f : Format) (x : Float) : Type 0 where
  pub significand : ℕ
  pub exponent : ℕ
  pub short : significand < 2 ^ prec f
  pub value : size_in f x ≡ significand * 2 ^ exponent

pub digits : (f : Format) (x : Float) → Held f x → Digits f x
unfolding size_in
digits f nan h = absurd h.is_finite
digits f (inf s) h = absurd h.is_finite
digits f (fin s m e) h =
    record {
      significand = m;
      exponent = places f e;
      short = fits_digits f s m e h.in_format;
      value = divided f s m e h.in_format;
    }

-- it is below overflow
fits_below : (f : Format) (s : Bool) (m : ℕ) (e : ℤ) → T (fits f (fin s m e)) → m * up e < 2 ^ suc (emax f) * down e
unfolding fits
fits_below f s zero e t = le_trans (le_of_eq (ap suc (zero-mul (up e)))) (mul-pos (pow_pos (suc (emax f))) (down_pos e))
fits_below f s (suc m) e t = ltb→lt (suc m * up e) (2 ^ suc (emax f) * down e) (search (and_l, and_r))

pub size_below : (f : Format) (x : Float) → Held f x → size_in f x < overflow f
unfolding size_in
size_below f nan h = absurd h.is_finite
size_below f (inf s) h = absurd h.is_finite
size_below f (fin s m e) h =
    (div-lt_iff_lt-mul (down_pos e)).1
    (subst (λ (n : ℕ). m * up e * 2 ^ low f < n) same (mul-lt-mul_of_pos_right (fits_below f s m e h.in_format) (pow_pos (low f))))
  where
    same : 2 ^ suc (emax f) * down e * 2 ^ low f ≡ overflow f * down e
    same =
        mul_right_comm (2 ^ suc (emax f)) (down e) (2 ^ low f)
        ∙ ap (λ (n : ℕ). n * down e) (mul_comm (2 ^ suc (emax f)) (2 ^ low f) ∙ sym (pow-add 2 (low f) (suc (emax f))))

-- ---- what is for a number of units, and what is against it: n and 0, or 0 and n where the sign is minus
abbrev pub gain : Bool → ℕ → ℕ
gain s n = cond s 0 n

abbrev pub loss : Bool → ℕ → ℕ
loss s n = cond s n 0

unfoldable pub plus : Format → Float → ℕ
plus f x = gain (is_negative x) (size_in f x)

unfoldable pub minus : Format → Float → ℕ
minus f x = loss (is_negative x) (size_in f x)

-- ---- signs
pub neg_held : (f : Format) (x : Float) → Held f x → Held f (neg x)
unfolding neg
neg_held f nan h = absurd h.is_finite
neg_held f (inf s) h = absurd h.is_finite
neg_held f (fin s m e) h = record { in_format = neg-fits f (fin s m e) h.in_format; is_finite = tt }

pub neg_size : (f : Format) (x : Float) → size_in f (neg x) ≡ size_in f x
unfolding neg size_in
neg_size f nan = refl
neg_size f (inf s) = refl
neg_size f (fin s m e) = refl

pub neg_sign : (x : Float) → T (finite x) → is_negative (neg x) ≡ not (is_negative x)
unfolding neg is_negative
neg_sign nan t = absurd t
neg_sign (inf s) t = absurd t
neg_sign (fin s m e) t = refl

pub unlike_plus : (s : Bool) → unlike false s ≡ s
unlike_plus true = refl
unlike_plus false = refl
