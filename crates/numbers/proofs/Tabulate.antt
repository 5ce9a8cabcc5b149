-- Lists by rule. Assumes nothing.
use Prim.Native.Nat.{ℕ, zero, suc, ◌<◌}
use native.Mathlib.Nat.{le_of_suc-le-suc, not-suc-le-zero}
use mathlib.Core.Path.{◌≡◌, refl, sym, ap, ◌∙◌}
use mathlib.Core.List.{List, [], ◌∷◌, map}
use lib.ListN.{length, get_or}
use Rattle.numbers.specs.Rule.{tabulate}

-- two rules that give the same list are the same at each index: so a rule is proved at all of them by one computation
pub tabulate_same {ℓ} : {A : Type ℓ} (n : ℕ) (f g : ℕ → A) → tabulate n f ≡ tabulate n g → (k : ℕ) → k < n → f k ≡ g k
tabulate_same zero f g e k h = absurd (not-suc-le-zero h)
tabulate_same (suc n) f g e zero h = cc
tabulate_same (suc n) f g e (suc k) h = tabulate_same n (λ (i : ℕ). f (suc i)) (λ (i : ℕ). g (suc i)) (cc) k (le_of_suc-le-suc h)

-- two functions of anything with a number below n are the same where they are the same at one thing of each number, by one computation, and are so at
-- everything with its number
pub same_everywhere {ℓ} : {S : Type 0} {A : Type ℓ} {f g : S → A} (n : ℕ) (key : S → ℕ) (one : ℕ → S) → ((c : S) → key c < n)
    → ((c : S) → f (one (key c)) ≡ f c) → ((c : S) → g (one (key c)) ≡ g c)
    → tabulate n (λ (k : ℕ). f (one k)) ≡ tabulate n (λ (k : ℕ). g (one k)) → (c : S) → f c ≡ g c
same_everywhere {f = f} {g = g} n key one below this that computed c =
    sym (this c) ∙ tabulate_same n (λ (k : ℕ). f (one k)) (λ (k : ℕ). g (one k)) computed (key c) (below c) ∙ that c

-- what stands at an index is what the rule says
pub tabulate_at {ℓ} : {A : Type ℓ} (n : ℕ) (f : ℕ → A) (d : A) (k : ℕ) → k < n → get_or (tabulate n f) k d ≡ f k
tabulate_at zero f d k h = absurd (not-suc-le-zero h)
tabulate_at (suc n) f d zero h = refl
tabulate_at (suc n) f d (suc k) h = tabulate_at n (λ (i : ℕ). f (suc i)) d k (le_of_suc-le-suc h)

-- what holds of the rule at each number, and of what stands behind the end, holds of the list at each place
pub tabulate_holds {ℓ} : {A : Type ℓ} (P : A → Type 0) (n : ℕ) (f : ℕ → A) (d : A) → ((k : ℕ) → P (f k)) → P d → (i : ℕ) → P (get_or (tabulate n f) i d)
tabulate_holds P zero f d each behind i = behind
tabulate_holds P (suc n) f d each behind zero = each 0
tabulate_holds P (suc n) f d each behind (suc i) = tabulate_holds P n (λ (k : ℕ). f (suc k)) d (λ k. each (suc k)) behind i

-- a list is what stands at its places
pub tabulate_back {ℓ} : {A : Type ℓ} (xs : List A) (n : ℕ) (d : A) → length xs ≡ n → tabulate n (λ (k : ℕ). get_or xs k d) ≡ xs
tabulate_back xs n d long = ap (λ (m : ℕ). tabulate m (λ (k : ℕ). get_or xs k d)) (sym long) ∙ whole xs
  where
    whole : (l : List _) → tabulate (length l) (λ (k : ℕ). get_or l k d) ≡ l
    whole [] = refl
    whole (x ∷ l) = ap (λ (m : List _). x ∷ m) (whole l)

-- a rule, and what is made of each
pub map_tabulate : {A B : Type 0} (g : A → B) (n : ℕ) (f : ℕ → A) → map g (tabulate n f) ≡ tabulate n (λ (k : ℕ). g (f k))
map_tabulate g zero f = refl
map_tabulate g (suc n) f = ap (λ (l : List _). g (f 0) ∷ l) (map_tabulate g n (λ (k : ℕ). f (suc k)))
