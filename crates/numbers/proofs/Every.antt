-- What holds of every member of a list, and of lists by rule. Assumes nothing.
use Prim.Native.Nat.{ℕ, zero, suc, ◌<◌}
use native.Mathlib.Nat.{le_of_suc-le-suc, not-suc-le-zero}
use native.Mathlib.Omega.{arith}
use mathlib.Core.List.{List, [], ◌∷◌, ◌++◌}
use lib.ListN.{length, get_or}
use Rattle.numbers.specs.Rule.{tabulate}

abbrev pub Every : {A : Type 0} → (A → Type 0) → List A → Type 0
Every P [] = Unit {0}
Every P (x ∷ xs) = P x × Every P xs

module _ {A : Type 0} (P : A → Type 0) where
  pub every_append : (xs ys : List A) → Every P xs → Every P ys → Every P (xs ++ ys)
  every_append [] ys h k = k
  every_append (x ∷ xs) ys h k = (h.0, every_append xs ys h.1 k)

  pub every_front : (xs ys : List A) → Every P (xs ++ ys) → Every P xs
  every_front [] ys h = tt
  every_front (x ∷ xs) ys h = (h.0, every_front xs ys h.1)

  pub every_behind : (xs ys : List A) → Every P (xs ++ ys) → Every P ys
  every_behind [] ys h = h
  every_behind (x ∷ xs) ys h = every_behind xs ys h.1

  pub every_tabulate : (n : ℕ) (f : ℕ → A) → ((k : ℕ) → k < n → P (f k)) → Every P (tabulate n f)
  every_tabulate zero f h = tt
  every_tabulate (suc n) f h = (h 0 (omega arith), every_tabulate n (λ (k : ℕ). f (suc k)) (λ k below. h (suc k) (omega arith)))

  pub every_at : (n : ℕ) (f : ℕ → A) → Every P (tabulate n f) → (k : ℕ) → k < n → P (f k)
  every_at zero f h k below = absurd (not-suc-le-zero below)
  every_at (suc n) f h zero below = h.0
  every_at (suc n) f h (suc k) below = every_at n (λ (k : ℕ). f (suc k)) h.1 k (le_of_suc-le-suc below)

  pub every_member : (xs : List A) (d : A) → Every P xs → (k : ℕ) → k < length xs → P (get_or xs k d)
  every_member [] d h k below = absurd (not-suc-le-zero below)
  every_member (x ∷ xs) d h zero below = h.0
  every_member (x ∷ xs) d h (suc k) below = every_member xs d h.1 k (le_of_suc-le-suc below)

-- what follows from one thing, and from two, that hold of every member
pub every_then : {A : Type 0} (P Q : A → Type 0) → ((x : A) → P x → Q x) → (xs : List A) → Every P xs → Every Q xs
every_then P Q f [] h = tt
every_then P Q f (x ∷ xs) h = (f x h.0, every_then P Q f xs h.1)

pub every_both : {A : Type 0} (P Q R : A → Type 0) → ((x : A) → P x → Q x → R x) → (xs : List A) → Every P xs → Every Q xs → Every R xs
every_both P Q R f [] h k = tt
every_both P Q R f (x ∷ xs) h k = (f x h.0 k.0, every_both P Q R f xs h.1 k.1)
