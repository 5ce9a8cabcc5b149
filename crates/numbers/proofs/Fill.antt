-- What two nested loops leave that store f i j at w i + j: for the invariants of such loops. Assumes nothing.
use Prim.Native.Nat.{ℕ, zero, suc, ◌+◌, ◌*◌}
use mathlib.Core.List.{List}
use lib.ListN.{set}

-- the first j entries of row i stored
unfoldable pub fill_row {ℓ} : {A : Type ℓ} → (ℕ → ℕ → A) → ℕ → ℕ → ℕ → List A → List A
fill_row f w i zero x = x
fill_row f w i (suc j) x = set (fill_row f w i j x) (w * i + j) (f i j)

-- the first i rows stored
unfoldable pub fill_rows {ℓ} : {A : Type ℓ} → (ℕ → ℕ → A) → ℕ → ℕ → List A → List A
fill_rows f w zero x = x
fill_rows f w (suc i) x = fill_row f w i w (fill_rows f w i x)

-- the first k entries of a list stored
unfoldable pub fill_to {ℓ} : {A : Type ℓ} → (ℕ → A) → ℕ → List A → List A
fill_to f zero x = x
fill_to f (suc k) x = set (fill_to f k x) k (f k)
