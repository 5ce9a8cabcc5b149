-- What one corner more adds to the image and to the Jacobian, and that three rows stored are the Jacobian. Assumes nothing.
use Prim.Native.Nat.{ℕ, zero, suc, ◌+◌, ◌<◌}
use native.Mathlib.Nat.{not-suc-le-zero}
use native.Mathlib.Numerals.{add-one}
use mathlib.Core.Path.{◌≡◌}
use mathlib.Core.List.{List}
use lib.Ieee.{Float}
use lib.ListN.{replicate}
use Rattle.numbers.specs.Rule.{tabulate}
use Rattle.numbers.proofs.Fold.{fold_more}
use Rattle.binary64.specs.Binary64.{◌⊕◌, ◌⊗◌, ◌!◌, f0}
use Rattle.cell.specs.Image.{corner, sum, image_on, jacobian_on, jacobian, with_row}

sum_more : (n : ℕ) (f : ℕ → Float) → 0 < n → sum (n + 1) f ≡ sum n f ⊕ f n
sum_more zero f some = absurd (not-suc-le-zero some)
sum_more (suc n) f some = rw add-one (fold_more (λ (a x : Float). a ⊕ x) (f 0) n (λ (k : ℕ). f (suc k)))

pub image_more : (n : ℕ) (shape p : List Float) (i : ℕ) (x t : Float)
    → 0 < n → x ≡ image_on n shape p i → t ≡ shape ! n ⊗ corner p n i → x ⊕ t ≡ image_on (n + 1) shape p i
image_more n shape p i x t some sum term = rw (sum, term, sum_more n (λ (k : ℕ). shape ! k ⊗ corner p k i) some)

pub jacobian_more : (n : ℕ) (p slopes : List Float) (i j : ℕ) (x a s : Float)
    → x ≡ jacobian_on n p slopes i j → a ≡ corner p n i → s ≡ corner slopes n j → x ⊕ a ⊗ s ≡ jacobian_on (n + 1) p slopes i j
jacobian_more n p slopes i j x a s sum at slope =
    rw (sum, at, slope, add-one, fold_more (λ (a x : Float). a ⊕ x) f0 n (λ (k : ℕ). corner p k i ⊗ corner slopes k j))

pub jacobian_stored : (n : ℕ) (p : List Float) {slopes dndr x y z first second third : List Float}
    → dndr ≡ slopes
    → x ≡ tabulate 3 (jacobian_on n p dndr 0) → first ≡ with_row (replicate 9 f0) 0 x
    → y ≡ tabulate 3 (jacobian_on n p dndr 1) → second ≡ with_row first 1 y
    → z ≡ tabulate 3 (jacobian_on n p dndr 2) → third ≡ with_row second 2 z
    → third ≡ jacobian n p slopes
jacobian_stored n p given row₀ put₀ row₁ put₁ row₂ put₂ = rw (put₂, put₁, put₀, row₂, row₁, row₀, given)
