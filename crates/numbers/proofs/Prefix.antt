-- Lists by rule, up to an index. Assumes nothing.
use Prim.Native.Nat.{ℕ, zero, suc, ◌<◌}
use native.Mathlib.Nat.{le_of_suc-le-suc, not-suc-le-zero}
use native.Mathlib.Omega.{arith}
use mathlib.Core.Path.{◌≡◌, refl, ap}
use mathlib.Core.List.{List, ◌∷◌, ◌++◌}
use Rattle.numbers.specs.Rule.{tabulate}

module _ {ℓ} {A : Type ℓ} where
  -- two rules that are the same at each index give the same list
  pub tabulate_where : (n : ℕ) (f g : ℕ → A) → ((k : ℕ) → k < n → f k ≡ g k) → tabulate n f ≡ tabulate n g
  tabulate_where zero f g h = refl
  tabulate_where (suc n) f g h =
      rw (h 0 (omega arith), tabulate_where n (λ (k : ℕ). f (suc k)) (λ (k : ℕ). g (suc k)) (λ k below. h (suc k) (omega arith)))

  -- the list up to index i, what stands there, and the rest
  pub tabulate_past : (i n : ℕ) (f : ℕ → A) → i < n → (rest : List A) × (tabulate n f ≡ tabulate i f ++ (f i ∷ rest))
  tabulate_past i zero f h = absurd (not-suc-le-zero h)
  tabulate_past zero (suc n) f h = (tabulate n (λ (k : ℕ). f (suc k)), refl)
  tabulate_past (suc i) (suc n) f h =
      let more = tabulate_past i n (λ (k : ℕ). f (suc k)) (le_of_suc-le-suc h) in
      (more.0, ap (λ (l : List A). f 0 ∷ l) more.1)
