-- The largest of n numbers: none of them is larger, and it is no larger than what bounds them all. Assumes nothing.
use Prim.Native.Nat.{ℕ, zero, suc, ◌≤◌, ◌<◌, max, suc-le-suc}
use native.Mathlib.Nat.{le_trans, le_refl, le-max_left, le-max_right, max-le, le_of_suc-le-suc, not-suc-le-zero, zero-lt-suc}
use Rattle.numbers.specs.Rule.{fold_to}

start_least : (n a : ℕ) (f : ℕ → ℕ) → a ≤ fold_to max a n f
start_least zero a f = le_refl a
start_least (suc n) a f = le_trans (le-max_left a (f 0)) (start_least n (max a (f 0)) (λ (k : ℕ). f (suc k)))

pub largest_least : (n a : ℕ) (f : ℕ → ℕ) (k : ℕ) → k < n → f k ≤ fold_to max a n f
largest_least zero a f k below = absurd (not-suc-le-zero below)
largest_least (suc n) a f zero below = le_trans (le-max_right a (f 0)) (start_least n (max a (f 0)) (λ (k : ℕ). f (suc k)))
largest_least (suc n) a f (suc k) below = largest_least n (max a (f 0)) (λ (k : ℕ). f (suc k)) k (le_of_suc-le-suc below)

pub largest_most : (n a b : ℕ) (f : ℕ → ℕ) → a ≤ b → ((k : ℕ) → k < n → f k ≤ b) → fold_to max a n f ≤ b
largest_most zero a b f h each = h
largest_most (suc n) a b f h each =
    largest_most n (max a (f 0)) b (λ (k : ℕ). f (suc k)) (max-le h (each 0 (zero-lt-suc n))) (λ (k : ℕ) (below : k < n). each (suc k) (suc-le-suc below))
