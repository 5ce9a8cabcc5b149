-- Lists that are given by a rule over the index. Definitions only.
use Rattle.std.specs.Prelude.{ℕ, zero, suc, ◌+◌, ◌*◌, ◌/◌, ◌%◌, Bool, true, false, ◌&&◌, ◌||◌, cond, List, [], ◌∷◌, eqb}

-- f 0, f 1, .. f (n - 1)
abbrev pub tabulate {ℓ} : {A : Type ℓ} → ℕ → (ℕ → A) → List A
tabulate zero f = []
tabulate (suc n) f = f 0 ∷ tabulate n (λ (k : ℕ). f (suc k))

-- n rows of w, row by row: f i j stands at w i + j
abbrev pub grid {ℓ} : {A : Type ℓ} → ℕ → ℕ → (ℕ → ℕ → A) → List A
grid n w f = tabulate (n * w) (λ (k : ℕ). f (k / w) (k % w))

-- the first k of f 0, f 1, .. taken up into a, from the left
abbrev pub fold_to {ℓ κ} : {A : Type ℓ} {B : Type κ} → (B → A → B) → B → ℕ → (ℕ → A) → B
fold_to step a zero f = a
fold_to step a (suc n) f = fold_to step (step a (f 0)) n (λ (k : ℕ). f (suc k))

-- how many of 0 .. n - 1 pass
abbrev pub count : ℕ → (ℕ → Bool) → ℕ
count zero p = 0
count (suc n) p = cond (p n) 1 0 + count n p

-- all of 0 .. n - 1 pass
abbrev pub all : ℕ → (ℕ → Bool) → Bool
all zero p = true
all (suc n) p = p n && all n p

-- one of 0 .. n - 1 passes
abbrev pub any : ℕ → (ℕ → Bool) → Bool
any zero p = false
any (suc n) p = p n || any n p

-- the first of 0 .. n - 1 that passes, or n where none does
abbrev pub least : ℕ → (ℕ → Bool) → ℕ
least zero p = 0
least (suc n) p = cond (p 0) 0 (suc (least n (λ (k : ℕ). p (suc k))))

-- the list less the number j
abbrev pub without : ℕ → List ℕ → List ℕ
without j [] = []
without j (i ∷ is) = cond (eqb i j) (without j is) (i ∷ without j is)

-- the place of the first of the list that is the same as x, or the length where there is none
abbrev pub place_of : {A : Type 0} → (A → A → Bool) → List A → A → ℕ
place_of same [] x = 0
place_of same (y ∷ ys) x = cond (same y x) 0 (suc (place_of same ys x))

-- the sum of f over a list
abbrev pub sum_over : (ℕ → ℕ) → List ℕ → ℕ
sum_over f [] = 0
sum_over f (x ∷ xs) = f x + sum_over f xs
