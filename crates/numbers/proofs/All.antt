-- What passes at every number below a bound, or at one of them, one number at a time. Assumes nothing.
use Prim.Native.Nat.{ℕ, zero, suc, ◌+◌, ◌<◌}
use native.Mathlib.Nat.{eq-or-lt_of_le, le_of_suc-le-suc, not-suc-le-zero}
use native.Mathlib.Numerals.{add-one}
use native.Mathlib.Omega.{arith}
use mathlib.Core.Path.{◌≡◌, refl, sym}
use mathlib.Core.Bool.{Bool, true, false, not, ◌&&◌, ◌||◌, or-true}
use mathlib.Core.Logic.{⊎_elim}
use Rattle.numbers.specs.Rule.{all, any}
use Rattle.numbers.proofs.Cases.{cases, never}
use Rattle.numbers.proofs.Tests.{holds, is_true, first, second, all_at}

pub left_true : (a b : Bool) → (a && b) ≡ true → a ≡ true
left_true a b h = is_true a (first a b (holds (a && b) h))

pub right_true : (a b : Bool) → (a && b) ≡ true → b ≡ true
right_true a b h = is_true b (second a b (holds (a && b) h))

right_false : (a b : Bool) → b ≡ false → (a && b) ≡ false
right_false true b h = h
right_false false b h = refl

not_both : (a b : Bool) → (not a || not b) ≡ not (a && b)
not_both true b = refl
not_both false b = refl

pub not_not : (a : Bool) → a ≡ not (not a)
not_not true = refl
not_not false = refl

module _ (p : ℕ → Bool) where
  -- where not all pass: one number more
  pub missed_more : (k : ℕ) (miss missed : Bool) → miss ≡ not (p k) → missed ≡ not (all k p) → (miss || missed) ≡ not (all (k + 1) p)
  missed_more k miss missed e es = rw (add-one, e, es) (not_both (p k) (all k p))

  pub all_more : (k : ℕ) → all k p ≡ true → p k ≡ true → all (k + 1) p ≡ true
  all_more k h e = rw (add-one, e) h

  pub all_miss : (k n : ℕ) → k < n → p k ≡ false → all n p ≡ false
  all_miss k zero h e = absurd (not-suc-le-zero h)
  all_miss k (suc n) h e =
      ⊎_elim
      (λ (same : k ≡ n). rw (← same, e))
      (λ (below : k < n). right_false (p n) (all n p) (all_miss k n below e))
      (eq-or-lt_of_le (le_of_suc-le-suc h))

  pub all_each : (n : ℕ) → all n p ≡ true → (k : ℕ) → k < n → p k ≡ true
  all_each n t k h = is_true (p k) (all_at n p (holds (all n p) t) k h)

  pub all_where : (n : ℕ) → ((k : ℕ) → k < n → p k ≡ true) → all n p ≡ true
  all_where zero f = refl
  all_where (suc n) f = rw (f n (omega arith)) (all_where n (λ k h. f k (omega arith)))

pub all_alike : (p q : ℕ → Bool) (n : ℕ) → ((k : ℕ) → k < n → p k ≡ q k) → all n p ≡ all n q
all_alike p q zero f = refl
all_alike p q (suc n) f = rw (f n (omega arith), all_alike p q n (λ k h. f k (omega arith)))

module _ (p : ℕ → Bool) where
  pub any_found : (n : ℕ) → any n p ≡ true → (k : ℕ) × (k < n) × (p k ≡ true)
  any_found zero t = never (sym t)
  any_found (suc n) t =
      cases (p n)
      (λ here. (n, omega arith, here))
      (λ f. let more = any_found n (rw f at t) in (more.0, omega (arith, more.1), more.2))

  pub any_has : (n k : ℕ) → k < n → p k ≡ true → any n p ≡ true
  any_has zero k h e = absurd (not-suc-le-zero h)
  any_has (suc n) k h e =
      ⊎_elim
      (λ (same : k ≡ n). rw (← same, e))
      (λ (below : k < n). rw (any_has n k below e) (or-true (p n)))
      (eq-or-lt_of_le (le_of_suc-le-suc h))

pub any_alike : (p q : ℕ → Bool) (n : ℕ) → ((k : ℕ) → k < n → p k ≡ q k) → any n p ≡ any n q
any_alike p q zero f = refl
any_alike p q (suc n) f = rw (f n (omega arith), any_alike p q n (λ k h. f k (omega arith)))
