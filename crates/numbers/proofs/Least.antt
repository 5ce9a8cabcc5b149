-- The first number that passes. Assumes nothing.
use Prim.Native.Nat.{ℕ, zero, suc, ◌≤◌, ◌<◌}
use native.Mathlib.Nat.{not-suc-le-zero}
use native.Mathlib.Omega.{arith}
use mathlib.Core.Path.{◌≡◌, ap}
use mathlib.Core.Bool.{Bool, true, false}
use Rattle.numbers.specs.Rule.{least}
use Rattle.numbers.proofs.Cases.{cases}

-- none before i passes, and i does, or it is the bound
pub least_is : (n : ℕ) (p : ℕ → Bool) (i : ℕ) → i ≤ n → ((j : ℕ) → j < i → p j ≡ false) → (i < n → p i ≡ true) → least n p ≡ i
least_is zero p i within missed there = omega arith
least_is (suc n) p zero within missed there = rw (there (omega arith))
least_is (suc n) p (suc i) within missed there =
    rw (missed 0 (omega arith))
    (ap suc (least_is n (λ (k : ℕ). p (suc k)) i (omega arith) (λ j h. missed (suc j) (omega arith)) (λ h. there (omega arith))))

pub record Least (n : ℕ) (p : ℕ → Bool) (i : ℕ) : Type 0 where
  pub within : i ≤ n
  pub missed : (j : ℕ) → j < i → p j ≡ false
  pub there : i < n → p i ≡ true

pub least_least : (n : ℕ) (p : ℕ → Bool) → Least n p (least n p)
least_least zero p = record { within = omega arith; missed = λ j h. absurd (not-suc-le-zero h); there = λ h. absurd (not-suc-le-zero h) }
least_least (suc n) p =
    cases (p 0)
    (λ here. rw here (record { within = omega arith; missed = λ j h. absurd (not-suc-le-zero h); there = λ h. here }))
    (λ miss. rw miss (more miss (least_least n (λ (k : ℕ). p (suc k)))))
  where
    more : {i : ℕ} → p 0 ≡ false → Least n (λ (k : ℕ). p (suc k)) i → Least (suc n) p (suc i)
    more {i} miss rest =
        record {
          within = omega (arith, rest.within);
          missed = λ j h. at j h;
          there = λ h. rest.there (omega arith);
        }
      where
        at : (j : ℕ) → j < suc i → p j ≡ false
        at zero h = miss
        at (suc j) h = rest.missed j (omega arith)
