-- Two sums of the same terms are the same. Assumes nothing.
use Prim.Native.Nat.{ℕ, zero, suc}
use mathlib.Core.Path.{◌≡◌, refl, ap, ◌∙◌}
use Rattle.numbers.specs.Rule.{fold_to}

pub fold_same {ℓ κ} : {A : Type ℓ} {B : Type κ} (step : B → A → B) (a : B) (n : ℕ) {f g : ℕ → A} → ((k : ℕ) → f k ≡ g k) → fold_to step a n f ≡ fold_to step a n g
fold_same step a zero same = refl
fold_same step a (suc n) {f = f} {g = g} same =
    ap (λ x. fold_to step (step a x) n (λ (k : ℕ). f (suc k))) (same 0) ∙ fold_same step (step a (g 0)) n (λ k. same (suc k))
