-- An exact sum as an integer is what is for it less what is against it, over any number of corners. Assumes nothing.
use Prim.Native.Nat.{ℕ, zero, suc, ◌+◌, ◌-◌, ◌*◌, ◌≤◌, ◌<◌, suc-le-suc}
use native.Mathlib.Nat.{mul-zero, zero-lt-suc}
use native.Mathlib.Omega.{arith}
use mathlib.Core.Path.{◌≡◌, sym, ap, ap₂, ◌∙◌}
use mathlib.Core.Logic.{◌⊎◌, inl, inr}
use mathlib.Core.Bool.{Bool, true, false, cond}
use lib.IntN.{ℤ, pos, negsuc, neg_ℤ, nat_abs, ◌+ℤ◌, ◌-ℤ◌, ◌*ℤ◌, +ℤ_assoc, +ℤ_comm, +ℤ_idl, +ℤ_invl, +ℤ-neg_ℤ_cancel, -ℤ-+ℤ_cancel}
use lib.Ieee.{Float, binary64}
use lib.Ieee.Digits.{back}
use Rattle.numbers.specs.Rule.{fold_to}
use Rattle.binary64.specs.Exact.{size, units, is_negative}
use Rattle.rounding.proofs.Units.{gain, loss, plus, minus}
use Rattle.rounding.proofs.Sum.{later}
use Rattle.rounding.proofs.Products.{gathered}

-- z is up - down
pub record Balance (z : ℤ) (up down : ℕ) : Type 0 where
  pub level : z +ℤ pos down ≡ pos up

-- its size is the one less the other
pub size_of_balance : (z : ℤ) (up down : ℕ) → Balance z up down → (nat_abs z + down ≡ up) ⊎ (nat_abs z + up ≡ down)
size_of_balance (pos m) up down b = inl (ap nat_abs b.level)
size_of_balance (negsuc m) up down b =
    let turned : pos up ≡ pos down -ℤ pos (suc m) = sym b.level ∙ +ℤ_comm (negsuc m) (pos down) in
    let sum : up + suc m ≡ down = ap nat_abs (ap (λ (x : ℤ). x +ℤ pos (suc m)) turned ∙ -ℤ-+ℤ_cancel (pos down) (pos (suc m))) in
    inr (omega arith)

swap : (a b c d : ℤ) → (a +ℤ b) +ℤ (c +ℤ d) ≡ (a +ℤ c) +ℤ (b +ℤ d)
swap a b c d =
    +ℤ_assoc a b (c +ℤ d)
    ∙ ap (λ (x : ℤ). a +ℤ x) (sym (+ℤ_assoc b c d) ∙ ap (λ (x : ℤ). x +ℤ d) (+ℤ_comm b c) ∙ +ℤ_assoc c b d)
    ∙ sym (+ℤ_assoc a c (b +ℤ d))

balance_sum : (y z : ℤ) (a b c d : ℕ) → Balance y a b → Balance z c d → Balance (y +ℤ z) (a + c) (b + d)
balance_sum y z a b c d p q = record { level = swap y z (pos b) (pos d) ∙ ap₂ (λ (x y : ℤ). x +ℤ y) p.level q.level }

balance_fold : (n : ℕ) (z : ℤ) (a b : ℕ) (t : ℕ → ℤ) (u v : ℕ → ℕ) → Balance z a b → ((m : ℕ) → m < n → Balance (t m) (u m) (v m))
    → Balance (fold_to ◌+ℤ◌ z n t) (fold_to ◌+◌ a n u) (fold_to ◌+◌ b n v)
balance_fold zero z a b t u v p each = p
balance_fold (suc n) z a b t u v p each =
    balance_fold n (z +ℤ t 0) (a + u 0) (b + v 0) (later t) (later u) (later v)
    (balance_sum z (t 0) a b (u 0) (v 0) p (each 0 (zero-lt-suc n))) (λ (m : ℕ) (below : m < n). each (suc m) (suc-le-suc below))

-- a weight times a corner
balance_product : (w n : ℕ) (s : Bool) → Balance (pos w *ℤ cond s (neg_ℤ (pos n)) (pos n)) (w * gain s n) (w * loss s n)
balance_product w n false = record { level = ap pos (omega arith) }
balance_product w zero true = record { level = ap pos (omega arith) }
balance_product w (suc n) true = record { level = +ℤ_invl (pos (w * suc n)) ∙ ap pos (sym (mul-zero w)) }

-- n + 1 of them, added to zero
module _ (n : ℕ) (weight : ℕ → ℤ) (exact : ℕ → ℕ) (corner : ℕ → Float) (same : (m : ℕ) → m < suc n → weight m ≡ pos (exact m)) where
  abbrev term : ℕ → ℤ
  term m = weight m *ℤ units (corner m)

  abbrev up : ℕ → ℕ
  up m = exact m * plus binary64 (corner m)

  abbrev down : ℕ → ℕ
  down m = exact m * minus binary64 (corner m)

  one : (m : ℕ) → m < suc n → Balance (term m) (up m) (down m)
  unfolding plus minus
  one m below = rw (same m below) (balance_product (exact m) (size (corner m)) (is_negative (corner m)))

  pub balance_image : Balance (fold_to ◌+ℤ◌ (pos 0) (suc n) term) (gathered ◌+◌ n up) (gathered ◌+◌ n down)
  balance_image =
      balance_fold n (pos 0 +ℤ term 0) (up 0) (down 0) (later term) (later up) (later down) (rw +ℤ_idl (one 0 (zero-lt-suc n)))
      (λ (m : ℕ) (below : m < n). one (suc m) (suc-le-suc below))

-- ---- one natural number less another that is no more
pub pos_minus : (a b : ℕ) → b ≤ a → pos a -ℤ pos b ≡ pos (a - b)
pos_minus a b h = ap (λ (x : ℕ). pos x -ℤ pos b) (sym (back a b h)) ∙ +ℤ-neg_ℤ_cancel (pos (a - b)) (pos b)
