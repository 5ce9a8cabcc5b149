-- Facts from computed tests. Assumes nothing.
use Prim.Native.Nat.{ℕ, zero, suc, ◌<◌}
use native.Mathlib.Nat.{eq-or-lt_of_le, le_of_suc-le-suc, not-suc-le-zero}
use mathlib.Core.Path.{◌≡◌, refl, subst, sym}
use mathlib.Core.Bool.{Bool, true, false, ◌&&◌, false≢true}
use mathlib.Core.Logic.{⊎_elim}
use lib.Dec.{T}
use Rattle.numbers.specs.Rule.{all}

-- a test that is true, and its being so
pub holds : (b : Bool) → b ≡ true → T b
holds true e = tt
holds false e = absurd (false≢true e)

pub is_true : (b : Bool) → T b → b ≡ true
is_true true t = refl
is_true false t = absurd t

pub first : (a b : Bool) → T (a && b) → T a
first true b t = tt
first false b t = t

pub second : (a b : Bool) → T (a && b) → T b
second true b t = t
second false b t = absurd t

-- what a computed `all` says of each number below its bound
pub all_at : (n : ℕ) (p : ℕ → Bool) → T (all n p) → (k : ℕ) → k < n → T (p k)
all_at zero p t k h = absurd (not-suc-le-zero h)
all_at (suc n) p t k h =
    ⊎_elim
    (λ (e : k ≡ n). subst (λ (m : ℕ). T (p m)) (sym e) (first (p n) (all n p) t))
    (all_at n p (second (p n) (all n p) t) k)
    (eq-or-lt_of_le (le_of_suc-le-suc h))

-- of each pair of numbers below the bounds
pub all_at_pair : (n m : ℕ) (p : ℕ → ℕ → Bool) → T (all n (λ (a : ℕ). all m (p a))) → (a b : ℕ) → a < n → b < m → T (p a b)
all_at_pair n m p t a b ha hb = all_at m (p a) (all_at n (λ (a : ℕ). all m (p a)) t a ha) b hb
