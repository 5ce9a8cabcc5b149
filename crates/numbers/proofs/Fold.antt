-- A fold over an index range takes its last element up last: what a counting loop adds in one turn. Assumes nothing.
use Prim.Native.Nat.{ℕ, zero, suc, ◌+◌, ◌*◌, ◌/◌, ◌%◌, ◌<◌}
use native.Mathlib.Nat.{add-suc, add-zero, mul-zero, mul_comm}
use native.Mathlib.Numerals.{add-one}
use mathlib.Core.Path.{◌≡◌, refl}
use Rattle.numbers.specs.Rule.{fold_to}
use Rattle.numbers.proofs.Slots.{row_next, slot_row, slot_place}

pub fold_more {ℓ κ} : {A : Type ℓ} {B : Type κ} (step : B → A → B) (a : B) (n : ℕ) (f : ℕ → A) → fold_to step a (suc n) f ≡ step (fold_to step a n f) (f n)
fold_more step a zero f = refl
fold_more step a (suc n) f = fold_more step (step a (f 0)) n (λ (k : ℕ). f (suc k))

-- rows of w elements taken up one behind another, as two nested counting loops do: all rows before row c, and the first i elements of row c
unfoldable pub fold_rows : {A B : Type 0} → (B → A → B) → B → ℕ → (ℕ → ℕ → A) → ℕ → ℕ → B
fold_rows step a w f c i = fold_to step a (w * c + i) (λ (t : ℕ). f (t / w) (t % w))

module _ {A B : Type 0} (step : B → A → B) (a : B) (w : ℕ) (f : ℕ → ℕ → A) where
  pub rows_none : fold_rows step a w f 0 0 ≡ a
  unfolding fold_rows
  rows_none = simp (mul-zero, add-zero)

  pub row_more : (c i : ℕ) → i < w → fold_rows step a w f c (i + 1) ≡ step (fold_rows step a w f c i) (f c i)
  unfolding fold_rows
  row_more c i within = rw (add-one, add-suc, fold_more, slot_row w c i within, slot_place w c i within)

  pub row_done : (c : ℕ) → fold_rows step a w f c w ≡ fold_rows step a w f (c + 1) 0
  unfolding fold_rows
  row_done c = rw (row_next, add-zero)

  pub rows_done : (c : ℕ) → fold_rows step a w f c 0 ≡ fold_to step a (c * w) (λ (t : ℕ). f (t / w) (t % w))
  unfolding fold_rows
  rows_done c = rw (add-zero, mul_comm)
