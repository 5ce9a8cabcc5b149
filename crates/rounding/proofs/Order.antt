-- The float comparison of two finite values compares their units. Assumes nothing.
use Prim.Native.Nat.{ℕ, ◌+◌, ◌*◌, ◌^◌, ◌≤◌, ◌<◌}
use native.Mathlib.Nat.{le_of_eq, le_of_lt, le_of_mul-le-mul_right, eq-or-lt_of_le, mul-le-mul_right, mul-pos}
use native.Mathlib.Omega.{arith}
use mathlib.Core.Path.{◌≡◌, refl, sym, ap, ap₂, ◌∙◌}
use mathlib.Core.Logic.{◌⊎◌, inl, inr, ◌↔◌}
use mathlib.Core.Bool.{Bool, true, false, not, ◌&&◌, ◌||◌}
use lib.IntN.{pos}
use lib.Dec.{T, ltb, eqb, ltb→lt, lt→ltb, eqb→eq}
use lib.Pow.{pow_pos}
use lib.Ieee.{Float, nan, inf, fin, Format, binary32, binary64, low, up, down, below, level, neg, le, fits}
use lib.Ieee.Fits.{down_pos, and_l, and_r, and_i, eq→eqb}
use lib.Ieee.Scale.{finite}
use Rattle.binary64.specs.Exact.{size_in, is_negative}
use Rattle.rounding.proofs.Within.{Within}
use Rattle.rounding.proofs.Units.{Held, own_value, gain, loss, plus, minus, neg_held, neg_size, neg_sign}

-- ---- below or equal, as the comparison tests it
either : (p q : Bool) → T p ⊎ T q → T (p || q)
either true q h = tt
either false q (inl h) = absurd h
either false q (inr h) = h

below_or_equal : (a b : ℕ) (p q : Bool) → (T p → a < b) → (T q → a ≡ b) → T (p || (q && true)) → a ≤ b
below_or_equal a b true q lt eq h = le_of_lt (lt tt)
below_or_equal a b false true lt eq h = le_of_eq (eq tt)
below_or_equal a b false false lt eq h = absurd h

then_below : (a b : ℕ) (q : Bool) → (a ≡ b → T q) → a ≤ b → T (ltb a b || q)
then_below a b q equal h = either (ltb a b) q (elim (eq-or-lt_of_le h) [ inl e ↦ inr (equal e) | inr l ↦ inl (lt→ltb a b l) ])

both_zero : (a b : ℕ) → a + b ≤ 0 → T (eqb a b && eqb a 0)
both_zero a b h =
    let same : a ≡ b = omega arith in
    let none : a ≡ 0 = omega arith in
    and_i (eqb a b) (eqb a 0) (eq→eqb same) (eq→eqb none)

-- ---- the comparison of two signed whole numbers
abbrev test : Bool → ℕ → Bool → ℕ → Bool
test s a t b = below s a t b || level s a t b

test_then : (s : Bool) (a : ℕ) (t : Bool) (b : ℕ) → T (test s a t b) → gain s a + loss t b ≤ gain t b + loss s a
test_then false a false b h = let k = below_or_equal a b (ltb a b) (eqb a b) (ltb→lt a b) (eqb→eq a b) h in omega arith
test_then false a true b h = omega (arith, eqb→eq a b (and_l (eqb a b) (eqb a 0) h), eqb→eq a 0 (and_r (eqb a b) (eqb a 0) h))
test_then true a false b h = omega arith
test_then true a true b h =
    let k = below_or_equal b a (ltb b a) (eqb a b) (ltb→lt b a) (λ (e : T (eqb a b)). sym (eqb→eq a b e)) h in
    omega arith

then_test : (s : Bool) (a : ℕ) (t : Bool) (b : ℕ) → gain s a + loss t b ≤ gain t b + loss s a → T (test s a t b)
then_test false a false b h = then_below a b (eqb a b && true) (λ (e : a ≡ b). and_i (eqb a b) true (eq→eqb e) tt) (omega arith)
then_test false a true b h = both_zero a b (omega arith)
then_test true a false b h = then_below 0 (a + b) (eqb a b && eqb a 0) (λ (e : 0 ≡ a + b). both_zero a b (omega arith)) (omega arith)
then_test true a true b h = then_below b a (eqb a b && true) (λ (e : b ≡ a). and_i (eqb a b) true (eq→eqb (sym e)) tt) (omega arith)

-- ---- of two values, in units
scaled : (s t : Bool) (a b X Y l c : ℕ) → a * l ≡ X * c → b * l ≡ Y * c → (gain s a + loss t b) * l ≡ (gain s X + loss t Y) * c
scaled true true a b X Y l c p q = omega arith
scaled true false a b X Y l c p q = omega arith
scaled false true a b X Y l c p q = omega arith
scaled false false a b X Y l c p q = omega arith

carried : (u v U W l c : ℕ) → 0 < c → u * l ≡ U * c → v * l ≡ W * c → u ≤ v → U ≤ W
carried u v U W l c positive p q h = le_of_mul-le-mul_right {k = c} (omega (arith, mul-le-mul_right l h)) positive

test_units : (s : Bool) (a : ℕ) (t : Bool) (b X Y l c : ℕ) → 0 < l → 0 < c → a * l ≡ X * c → b * l ≡ Y * c
    → T (test s a t b) ↔ (gain s X + loss t Y ≤ gain t Y + loss s X)
test_units s a t b X Y l c l_pos c_pos p q =
    let left = scaled s t a b X Y l c p q in
    let right = scaled t s b a Y X l c q p in (
      λ h. carried (gain s a + loss t b) (gain t b + loss s a) (gain s X + loss t Y) (gain t Y + loss s X) l c c_pos left right (test_then s a t b h),
      λ h.
          then_test s a t b
          (carried (gain s X + loss t Y) (gain t Y + loss s X) (gain s a + loss t b) (gain t b + loss s a) c l l_pos (sym left) (sym right) h),
    )

pub le_units : (f : Format) (x y : Float) → Held f x → Held f y → T (le x y) ↔ (plus f x + minus f y ≤ plus f y + minus f x)
unfolding le plus minus is_negative
le_units f nan y p q = absurd p.is_finite
le_units f (inf s) y p q = absurd p.is_finite
le_units f (fin s m e) nan p q = absurd q.is_finite
le_units f (fin s m e) (inf t) p q = absurd q.is_finite
le_units f (fin s m e) (fin t n d) p q =
    let X = size_in f (fin s m e) in
    let Y = size_in f (fin t n d) in
    let c = down e * down d in
    let scaled_a : m * up e * down d * 2 ^ low f ≡ X * c = omega (arith, ap (λ (z : ℕ). z * down d) (own_value f (fin s m e) p).1) in
    let scaled_b : n * up d * down e * 2 ^ low f ≡ Y * c = omega (arith, ap (λ (z : ℕ). z * down e) (own_value f (fin t n d) q).1) in
    test_units s (m * up e * down d) t (n * up d * down e) X Y (2 ^ low f) c (pow_pos (low f)) (mul-pos (down_pos e) (down_pos d)) scaled_a scaled_b

-- what lies between two finite values is finite
pub between_finite : (lo hi x : Float) → T (finite lo) → T (finite hi) → T (le lo x) → T (le x hi) → T (finite x)
unfolding le
between_finite (fin s m e) (fin t n d) nan a b above under = above
between_finite (fin s m e) (fin t n d) (inf true) a b above under = above
between_finite (fin s m e) (fin t n d) (inf false) a b above under = under
between_finite (fin s m e) (fin t n d) (fin u k c) a b above under = tt
between_finite nan hi x a b above under = absurd a
between_finite (inf s) hi x a b above under = absurd a
between_finite (fin s m e) nan x a b above under = absurd b
between_finite (fin s m e) (inf t) x a b above under = absurd b

-- ---- the sign turned: what was for a value is against it
neg_plus : (f : Format) (x : Float) → Held f x → plus f (neg x) ≡ minus f x
unfolding plus minus
neg_plus f x held = ap₂ (λ (s : Bool) (n : ℕ). gain s n) (neg_sign x held.is_finite) (neg_size f x) ∙ turned (is_negative x) (size_in f x)
  where
    turned : (s : Bool) (n : ℕ) → gain (not s) n ≡ loss s n
    turned true n = refl
    turned false n = refl

neg_minus : (f : Format) (x : Float) → Held f x → minus f (neg x) ≡ plus f x
unfolding plus minus
neg_minus f x held = ap₂ (λ (s : Bool) (n : ℕ). loss s n) (neg_sign x held.is_finite) (neg_size f x) ∙ turned (is_negative x) (size_in f x)
  where
    turned : (s : Bool) (n : ℕ) → loss (not s) n ≡ gain s n
    turned true n = refl
    turned false n = refl

-- ---- a tolerance is not below zero: minus zero is not either
pub record Tolerance (f : Format) (t : Float) : Type 0 where
  pub held : Held f t
  pub for_it : plus f t ≡ size_in f t
  pub against : minus f t ≡ 0

abbrev nought : Float
nought = fin false 0 (pos 0)

nought_held : (f : Format) → Held f nought
unfolding fits
nought_held f = record { in_format = tt; is_finite = tt }

nought_size : (f : Format) → size_in f nought ≡ 0
unfolding size_in
nought_size binary32 = refl
nought_size binary64 = refl

pub tolerance_of : (f : Format) (t : Float) → Held f t → T (le nought t) → Tolerance f t
unfolding plus minus is_negative
tolerance_of f t held above =
    let h = rw (nought_size f) at ((le_units f nought t (nought_held f) held).0 above) in
    record { held = held; for_it = one (is_negative t) (size_in f t) h; against = other (is_negative t) (size_in f t) h }
  where
    one : (s : Bool) (n : ℕ) → 0 + loss s n ≤ gain s n + 0 → gain s n ≡ n
    one true n h = omega arith
    one false n h = refl

    other : (s : Bool) (n : ℕ) → 0 + loss s n ≤ gain s n + 0 → loss s n ≡ 0
    other true n h = omega arith
    other false n h = refl

-- z <= t and -z <= t, in units
pub near_units : (f : Format) (z t : Float) → Held f z → Tolerance f t → T (le z t && le (neg z) t) ↔ Within (plus f z) (minus f z) (size_in f t)
near_units f z t held tol =
    let a = le_units f z t held tol.held in
    let b = le_units f (neg z) t (neg_held f z held) tol.held in
    let p = neg_plus f z held in
    let q = neg_minus f z held in (
      λ h.
          let over = a.0 (and_l (le z t) (le (neg z) t) h) in
          let under = b.0 (and_r (le z t) (le (neg z) t) h) in
          omega (arith, tol.for_it, tol.against),
      λ w. and_i (le z t) (le (neg z) t) (a.1 (omega (arith, tol.for_it, tol.against))) (b.1 (omega (arith, tol.for_it, tol.against))),
    )
