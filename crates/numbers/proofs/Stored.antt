-- Lists by rule, longer by one, and what a loop leaves that stores f i at i. Assumes nothing.
use Prim.Native.Nat.{ℕ, zero, suc, ◌+◌, ◌≤◌, ◌<◌}
use native.Mathlib.Numerals.{add-one}
use native.Mathlib.Omega.{arith}
use mathlib.Core.Path.{◌≡◌, refl, sym, ◌∙◌, ap, ap₂}
use mathlib.Core.List.{List, [], ◌∷◌, ◌++◌, append_assoc, append-nil}
use lib.ListN.{length, get_or, take, drop, set, length-append, length-take, length-set}
use lib.Seq.{drop-cons, drop-length, set_at, append_snoc}
use Rattle.numbers.specs.Rule.{tabulate}

module _ {ℓ} {A : Type ℓ} where
  pub length_tabulate : (n : ℕ) (f : ℕ → A) → length (tabulate n f) ≡ n
  length_tabulate zero f = refl
  length_tabulate (suc n) f = ap suc (length_tabulate n (λ (i : ℕ). f (suc i)))

  pub tabulate_more : (n : ℕ) (f : ℕ → A) → tabulate (suc n) f ≡ tabulate n f ++ (f n ∷ [])
  tabulate_more zero f = refl
  tabulate_more (suc n) f = ap (λ (xs : List A). f 0 ∷ xs) (tabulate_more n (λ (i : ℕ). f (suc i)))

  -- one store more
  pub stored_more : (f : ℕ → A) (old : List A) (i : ℕ) (d : A) → i < length old
      → set (tabulate i f ++ drop i old) i (f i) ≡ tabulate (i + 1) f ++ drop (i + 1) old
  stored_more f old i d h =
      rw (add-one, drop-cons old i d h, set_at (tabulate i f) (get_or old i d) (drop (suc i) old) (f i) i (length_tabulate i f))
      (sym (ap (λ (xs : List A). xs ++ drop (suc i) old) (tabulate_more i f) ∙ append_snoc (tabulate i f) (f i) (drop (suc i) old)))

  -- and one more behind the first m of the list
  pub stored_behind : (f : ℕ → A) (old : List A) (m i : ℕ) (d : A) → m + i < length old
      → set (take m old ++ (tabulate i f ++ drop (m + i) old)) (m + i) (f i) ≡ take m old ++ (tabulate (i + 1) f ++ drop (m + (i + 1)) old)
  stored_behind f old m i d h =
      let before = take m old ++ tabulate i f in
      let next : m + (i + 1) ≡ suc (m + i) = omega arith in
      let long : length before ≡ m + i = simp (length-append, length_tabulate, length-take) (omega arith) in
      rw (next, add-one, drop-cons old (m + i) d h, ← append_assoc (take m old) (tabulate i f) (get_or old (m + i) d ∷ drop (suc (m + i)) old))
      (set_at before (get_or old (m + i) d) (drop (suc (m + i)) old) (f i) (m + i) long
      ∙ append_assoc (take m old) (tabulate i f) (f i ∷ drop (suc (m + i)) old)
      ∙ ap (λ (xs : List A). take m old ++ xs)
      (sym (ap (λ (xs : List A). xs ++ drop (suc (m + i)) old) (tabulate_more i f) ∙ append_snoc (tabulate i f) (f i) (drop (suc (m + i)) old))))

-- what a loop holds that stores f i at i for each i below n, once it has stored i of them
pub record Stores {ℓ} {A : Type ℓ} (f : ℕ → A) (n : ℕ) (old out : List A) (i : ℕ) : Type ℓ where
  pub within : i ≤ n
  pub keeps : length out ≡ length old
  pub stored : out ≡ tabulate i f ++ drop i old

module _ {ℓ} {A : Type ℓ} {f : ℕ → A} {n : ℕ} {old : List A} where
  pub stores_none : Stores f n old old 0
  stores_none = record { within = omega arith; keeps = refl; stored = refl }

  pub stores_more : {out : List A} {i : ℕ} (x : A) → Stores f n old out i → i < n → n ≤ length old → x ≡ f i → Stores f n old (set out i x) (i + 1)
  stores_more {out} {i} x s below room e =
      record {
        within = omega arith;
        keeps = length-set out i x ∙ s.keeps;
        stored = ap₂ (λ (l : List A) (y : A). set l i y) s.stored e ∙ stored_more f old i x (omega arith);
      }

  pub stores_all : {out : List A} {i : ℕ} → Stores f n old out i → n ≤ i → out ≡ tabulate n f ++ drop n old
  stores_all {out} {i} s last = let all : i ≡ n = omega (arith, s.within) in rw all at s.stored

-- and where it stores over the whole list
pub stores_whole {ℓ} : {A : Type ℓ} {f : ℕ → A} {old out : List A} {i : ℕ} → Stores f (length old) old out i → length old ≤ i → out ≡ tabulate (length old) f
stores_whole {f = f} {old = old} s last =
    stores_all s last ∙ ap (λ (l : List _). tabulate (length old) f ++ l) (drop-length old) ∙ append-nil (tabulate (length old) f)
