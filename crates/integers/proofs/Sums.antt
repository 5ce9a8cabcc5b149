-- Sums over an index: of equal numbers, and of multiples. Assumes nothing.
use Prim.Native.Nat.{ℕ, zero, suc, ◌<◌}
use native.Mathlib.Omega.{arith}
use mathlib.Core.Path.{◌≡◌, refl, sym, ◌∙◌, ap, ap₂}
use lib.IntN.{ℤ, pos, ◌+ℤ◌, ◌*ℤ◌, *ℤ-zero}
use Rattle.numbers.proofs.Fold.{fold_more}
use Rattle.integers.specs.Sums.{sum_to}
use Rattle.integers.proofs.Ring.{times_sum}

sum_more : (n : ℕ) (f : ℕ → ℤ) → sum_to (suc n) f ≡ sum_to n f +ℤ f n
sum_more n f = fold_more ◌+ℤ◌ (pos 0) n f

pub sum_alike : (n : ℕ) (f g : ℕ → ℤ) → ((k : ℕ) → k < n → f k ≡ g k) → sum_to n f ≡ sum_to n g
sum_alike zero f g h = refl
sum_alike (suc n) f g h =
    sum_more n f ∙ ap₂ (λ (a b : ℤ). a +ℤ b) (sum_alike n f g (λ k below. h k (omega arith))) (h n (omega arith)) ∙ sym (sum_more n g)

pub sum_multiple : (m : ℤ) (n : ℕ) (f : ℕ → ℤ) → sum_to n (λ (k : ℕ). m *ℤ f k) ≡ m *ℤ sum_to n f
sum_multiple m zero f = sym (*ℤ-zero m)
sum_multiple m (suc n) f =
    sum_more n (λ (k : ℕ). m *ℤ f k)
    ∙ ap (λ (a : ℤ). a +ℤ m *ℤ f n) (sum_multiple m n f)
    ∙ sym (times_sum m (sum_to n f) (f n))
    ∙ ap (λ (a : ℤ). m *ℤ a) (sym (sum_more n f))
