-- What the refusals 3, 4 and 5 let pass, in units. Assumes nothing.
use Prim.Native.Nat.{ℕ, zero, suc, ◌+◌, ◌*◌, ◌/◌, ◌^◌, ◌≤◌, ◌<◌}
use native.Mathlib.Nat.{le_of_suc-le-suc, not-suc-le-zero, zero-mul, zero-div}
use native.Mathlib.Omega.{arith}
use mathlib.Core.Path.{◌≡◌, sym, ap, ◌∙◌, subst}
use mathlib.Core.Logic.{◌⊎◌, inl, inr}
use mathlib.Core.Bool.{Bool, true, false, ◌&&◌, ◌||◌}
use lib.Dec.{T, lit≤, eqb, eqb→eq}
use lib.Ieee.{Float, nan, inf, fin, binary64, up, down, neg, le, lt, eq, div, of_bits, fits}
use lib.Ieee.Fits.{and_l, and_r, and_i, neg-fits}
use lib.Ieee.Scale.{finite}
use Rattle.binary64.specs.Binary64.{f0, f1, infinity, is_zero}
use Rattle.binary64.specs.Exact.{one, size, size_in, is_negative}
use Rattle.hex_locate.specs.Locate.{within}
use Rattle.probe.specs.Check.{least, most, between, good_corner, good_tolerance}
use Rattle.probe.proofs.Shape.{Coordinate}
use Rattle.probe.proofs.Image.{Good}
use Rattle.rounding.proofs.Units.{Held, gain, loss, plus, minus, neg_size}
use Rattle.rounding.proofs.Order.{le_units, between_finite, Tolerance, tolerance_of}

-- ---- what two comparisons tell of a value's units, for finite bounds that the format holds
record Between (lo hi x : Float) : Type 0 where
  held : Held binary64 x
  above : plus binary64 lo + minus binary64 x ≤ plus binary64 x + minus binary64 lo
  under : plus binary64 x + minus binary64 hi ≤ plus binary64 hi + minus binary64 x

two_tests : (lo hi x : Float) → Held binary64 lo → Held binary64 hi → T (fits binary64 x) → T (le lo x && le x hi) → Between lo hi x
two_tests lo hi x lo_held hi_held in_format passed =
    let above = and_l (le lo x) (le x hi) passed in
    let under = and_r (le lo x) (le x hi) passed in
    let held : Held binary64 x = record { in_format = in_format; is_finite = between_finite lo hi x lo_held.is_finite hi_held.is_finite above under } in
    record { held = held; above = (le_units binary64 lo x lo_held held).0 above; under = (le_units binary64 x hi held hi_held).0 under }

-- ---- 5: a coordinate from -1 to 1
between_ones : (s : Bool) (n L : ℕ) → 0 + loss s n ≤ gain s n + L → gain s n + 0 ≤ L + loss s n → n ≤ L
between_ones true n L above under = omega arith
between_ones false n L above under = omega arith

pub coordinate : (r : Float) → T (fits binary64 r) → T (within r) → Coordinate r
unfolding plus minus is_negative size_in neg of_bits fits
coordinate r in_format passed =
    let b = two_tests (neg f1) f1 r (record { in_format = tt; is_finite = tt }) (record { in_format = tt; is_finite = tt }) in_format passed in
    record { held = b.held; small = between_ones (is_negative r) (size r) one b.above b.under }

-- ---- 3: zero, or from 2 ^ -100 to 2 ^ 100 in size
zero_value : (x : Float) → T (is_zero x) → T (finite x) × (size x ≡ 0)
unfolding eq of_bits size_in
zero_value nan h = absurd h
zero_value (inf s) h = absurd h
zero_value (fin s m e) h =
    let none : m * up e * 1 ≡ 0 * down e = eqb→eq (m * up e * 1) (0 * down e) (and_l (eqb (m * up e * 1) (0 * down e)) _ h) in
    let nothing : m * up e ≡ 0 = omega arith in
    (tt, ap (λ (n : ℕ). n * one / down e) nothing ∙ ap (λ (n : ℕ). n / down e) (zero-mul one) ∙ zero-div (down e))

between_sizes : (s : Bool) (n lo hi : ℕ) → 0 < lo → lo + loss s n ≤ gain s n + 0 → gain s n + 0 ≤ hi + loss s n → (lo ≤ n) × (n ≤ hi)
between_sizes true n lo hi positive above under = omega arith
between_sizes false n lo hi positive above under = omega arith

between_value : (x : Float) → T (fits binary64 x) → T (between x) → Good x
unfolding plus minus is_negative size_in of_bits fits
between_value x in_format passed =
    let b = two_tests least most x (record { in_format = tt; is_finite = tt }) (record { in_format = tt; is_finite = tt }) in_format passed in
    let sizes = between_sizes (is_negative x) (size x) (2 ^ 974) (2 ^ 1174) (lit≤ tt) b.above b.under in
    record { held = b.held; least = inr sizes.0; most = sizes.1 }

neg_finite : (x : Float) → T (finite (neg x)) → T (finite x)
unfolding neg
neg_finite nan h = h
neg_finite (inf s) h = h
neg_finite (fin s m e) h = tt

negated : (x : Float) → T (fits binary64 x) → Good (neg x) → Good x
negated x in_format good =
    record {
      held = record { in_format = in_format; is_finite = neg_finite x good.held.is_finite };
      least = subst (λ (n : ℕ). (n ≡ 0) ⊎ (2 ^ 974 ≤ n)) (neg_size binary64 x) good.least;
      most = subst (λ (n : ℕ). n ≤ 2 ^ 1174) (neg_size binary64 x) good.most;
    }

pub good : (x : Float) → T (fits binary64 x) → T (good_corner x) → Good x
good x in_format passed =
    go (is_zero x) (between x) (between (neg x)) (zero_value x) (between_value x in_format) (between_value (neg x) (neg-fits binary64 x in_format)) passed
  where
    none : T (finite x) × (size x ≡ 0) → Good x
    none zero_is =
        record {
          held = record { in_format = in_format; is_finite = zero_is.0 };
          least = inl zero_is.1;
          most = subst (λ (n : ℕ). n ≤ 2 ^ 1174) (sym zero_is.1) (lit≤ tt);
        }

    go : (a b c : Bool) → (T a → T (finite x) × (size x ≡ 0)) → (T b → Good x) → (T c → Good (neg x)) → T (a || b || c) → Good x
    go true b c zero_is plain turned h = none (zero_is tt)
    go false true c zero_is plain turned h = plain tt
    go false false true zero_is plain turned h = negated x in_format (turned tt)
    go false false false zero_is plain turned h = absurd h

-- ---- 4: finite and not below zero
tolerance_finite : (t : Float) → T (le f0 t) → T (lt t infinity) → T (finite t)
unfolding le div of_bits
tolerance_finite nan above under = above
tolerance_finite (inf true) above under = above
tolerance_finite (inf false) above under = under
tolerance_finite (fin s m e) above under = tt

pub tolerance : (t : Float) → T (fits binary64 t) → T (good_tolerance t) → Tolerance binary64 t
unfolding of_bits
tolerance t in_format passed =
    let above = and_l (le f0 t) (lt t infinity) passed in
    let under = and_r (le f0 t) (lt t infinity) passed in
    tolerance_of binary64 t (record { in_format = in_format; is_finite = tolerance_finite t above under }) above

-- ---- three tests, one for each axis
pub each_axis : (test : ℕ → Bool) → T (test 0 && test 1 && test 2) → (i : ℕ) → i < 3 → T (test i)
each_axis test h zero below = and_l (test 0) (test 1) (and_l (test 0 && test 1) (test 2) h)
each_axis test h (suc zero) below = and_r (test 0) (test 1) (and_l (test 0 && test 1) (test 2) h)
each_axis test h (suc (suc zero)) below = and_r (test 0 && test 1) (test 2) h
each_axis test h (suc (suc (suc i))) below = absurd (not-suc-le-zero (le_of_suc-le-suc (le_of_suc-le-suc (le_of_suc-le-suc below))))

pub all_axes : (test : ℕ → Bool) → ((i : ℕ) → i < 3 → T (test i)) → T (test 0 && test 1 && test 2)
all_axes test each = and_i (test 0 && test 1) (test 2) (and_i (test 0) (test 1) (each 0 (lit≤ tt)) (each 1 (lit≤ tt))) (each 2 (lit≤ tt))
