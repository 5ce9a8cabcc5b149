-- Like terms added up in a search tree, whose value is the terms' sum: zero where each coefficient is zero. Assumes nothing.
use Prim.Native.Nat.{Ordering}
use Prim.Native.Nat.{ℕ, zero, suc, ◌+◌, ◌*◌, compare}
use mathlib.Core.Path.{◌≡◌, refl, sym, ◌∙◌, ap, ap₂}
use mathlib.Core.Bool.{Bool, true, false, ◌&&◌}
use mathlib.Core.List.{List, [], ◌∷◌}
use lib.Dec.{T, eqb, eqb→eq}
use lib.IntN.{ℤ, pos, negsuc, ◌+ℤ◌, ◌*ℤ◌, +ℤ_idl, +ℤ_idr, +ℤ_assoc, +ℤ_comm, zero-*ℤ}
use Rattle.numbers.proofs.Tests.{first, second}
use Rattle.integers.proofs.Ring.{plus_left_swap, sum_times}
use Rattle.integers.proofs.Expand.{Term, product, term_value, sum_value}

-- a term with its key, which only says where to look
pub data Tree : Type 0 where
  leaf : Tree
  node : Tree → ℕ → Term → Tree → Tree

abbrev tree_value : List ℤ → Tree → ℤ
tree_value ρ leaf = pos 0
tree_value ρ (node l k t r) = term_value ρ t +ℤ (tree_value ρ l +ℤ tree_value ρ r)

abbrev key : List ℕ → ℕ
key [] = 0
key (i ∷ is) = i + 1 + 64 * key is

abbrev alike : List ℕ → List ℕ → Bool
alike [] [] = true
alike [] (j ∷ js) = false
alike (i ∷ is) [] = false
alike (i ∷ is) (j ∷ js) = eqb i j && alike is js

abbrev both : Term → Term → Term
both t u = record { coefficient = t.coefficient +ℤ u.coefficient; vars = u.vars }

abbrev grown : ℕ → Term → Tree → Tree
grown k t leaf = node leaf k t leaf
grown k t (node l j u r) =
    elim (compare k j) [
      | Ordering.lt ↦ node (grown k t l) j u r
      | Ordering.eq ↦ elim (alike t.vars u.vars) [ true ↦ node l j (both t u) r | false ↦ node (grown k t l) j u r ]
      | Ordering.gt ↦ node l j u (grown k t r)
    ]

abbrev pub collected : List Term → Tree → Tree
collected [] tree = tree
collected (t ∷ ts) tree = collected ts (grown (key t.vars) t tree)

abbrev is_zero : ℤ → Bool
is_zero (pos zero) = true
is_zero (pos (suc n)) = false
is_zero (negsuc n) = false

abbrev pub zeros : Tree → Bool
zeros leaf = true
zeros (node l k t r) = is_zero t.coefficient && (zeros l && zeros r)

alike_equal : (is js : List ℕ) → T (alike is js) → is ≡ js
alike_equal [] [] t = refl
alike_equal [] (j ∷ js) t = absurd t
alike_equal (i ∷ is) [] t = absurd t
alike_equal (i ∷ is) (j ∷ js) t =
    ap₂ (λ x y. x ∷ y) (eqb→eq i j (first (eqb i j) (alike is js) t)) (alike_equal is js (second (eqb i j) (alike is js) t))

zero_is : (z : ℤ) → T (is_zero z) → z ≡ pos 0
zero_is (pos zero) t = refl
zero_is (pos (suc n)) t = absurd t
zero_is (negsuc n) t = absurd t

-- a goes with l, or with r
with_left : (a u l r : ℤ) → u +ℤ ((a +ℤ l) +ℤ r) ≡ a +ℤ (u +ℤ (l +ℤ r))
with_left a u l r = ap (λ x. u +ℤ x) (+ℤ_assoc a l r) ∙ plus_left_swap u a (l +ℤ r)

with_right : (a u l r : ℤ) → u +ℤ (l +ℤ (a +ℤ r)) ≡ a +ℤ (u +ℤ (l +ℤ r))
with_right a u l r = ap (λ x. u +ℤ x) (plus_left_swap l a r) ∙ plus_left_swap u a (l +ℤ r)

module _ (ρ : List ℤ) where
  both_value : (t u : Term) (x : ℤ) → t.vars ≡ u.vars → term_value ρ (both t u) +ℤ x ≡ term_value ρ t +ℤ (term_value ρ u +ℤ x)
  both_value t u x e =
      ap (λ z. z +ℤ x)
      (sum_times t.coefficient u.coefficient (product ρ u.vars)
      ∙ ap (λ vs. t.coefficient *ℤ product ρ vs +ℤ term_value ρ u) (sym e))
      ∙ +ℤ_assoc (term_value ρ t) (term_value ρ u) x

  module _ (k : ℕ) (t : Term) (l : Tree) (j : ℕ) (u : Term) (r : Tree) where
    to_the_left : tree_value ρ (grown k t l) ≡ term_value ρ t +ℤ tree_value ρ l
        → tree_value ρ (node (grown k t l) j u r) ≡ term_value ρ t +ℤ tree_value ρ (node l j u r)
    to_the_left h =
        ap (λ x. term_value ρ u +ℤ (x +ℤ tree_value ρ r)) h ∙ with_left (term_value ρ t) (term_value ρ u) (tree_value ρ l) (tree_value ρ r)

    at_the_node : tree_value ρ (grown k t l) ≡ term_value ρ t +ℤ tree_value ρ l → (b : Bool) → (T b → t.vars ≡ u.vars)
        → tree_value ρ (elim b as (λ x. Tree) [ true ↦ node l j (both t u) r | false ↦ node (grown k t l) j u r ])
        ≡ term_value ρ t +ℤ tree_value ρ (node l j u r)
    at_the_node h true e = both_value t u (tree_value ρ l +ℤ tree_value ρ r) (e tt)
    at_the_node h false e = to_the_left h

  grown_value : (k : ℕ) (t : Term) (tree : Tree) → tree_value ρ (grown k t tree) ≡ term_value ρ t +ℤ tree_value ρ tree
  grown_value k t leaf = refl
  grown_value k t (node l j u r) =
      elim (compare k j) as (λ o.
      tree_value ρ (elim o as (λ x. Tree) [
        | Ordering.lt ↦ node (grown k t l) j u r
        | Ordering.eq ↦ elim (alike t.vars u.vars) [ true ↦ node l j (both t u) r | false ↦ node (grown k t l) j u r ]
        | Ordering.gt ↦ node l j u (grown k t r)
      ])
      ≡ term_value ρ t +ℤ tree_value ρ (node l j u r)) [
        | Ordering.lt ↦ to_the_left k t l j u r (grown_value k t l)
        | Ordering.eq ↦ at_the_node k t l j u r (grown_value k t l) (alike t.vars u.vars) (alike_equal t.vars u.vars)
        | Ordering.gt ↦
            ap (λ x. term_value ρ u +ℤ (tree_value ρ l +ℤ x)) (grown_value k t r)
            ∙ with_right (term_value ρ t) (term_value ρ u) (tree_value ρ l) (tree_value ρ r)
      ]

  collected_value : (ts : List Term) (tree : Tree) → tree_value ρ (collected ts tree) ≡ sum_value ρ ts +ℤ tree_value ρ tree
  collected_value [] tree = sym (+ℤ_idl (tree_value ρ tree))
  collected_value (t ∷ ts) tree =
      collected_value ts (grown (key t.vars) t tree) ∙ ap (λ x. sum_value ρ ts +ℤ x) (grown_value (key t.vars) t tree)
      ∙ sym (+ℤ_assoc (sum_value ρ ts) (term_value ρ t) (tree_value ρ tree))
      ∙ ap (λ x. x +ℤ tree_value ρ tree) (+ℤ_comm (sum_value ρ ts) (term_value ρ t))

  zeros_value : (tree : Tree) → T (zeros tree) → tree_value ρ tree ≡ pos 0
  zeros_value leaf h = refl
  zeros_value (node l k t r) h =
      let rest = second (is_zero t.coefficient) (zeros l && zeros r) h in
      let nothing = zero_is t.coefficient (first (is_zero t.coefficient) (zeros l && zeros r) h) in
      ap₂ (λ x y. x +ℤ y)
      (ap (λ z. z *ℤ product ρ t.vars) nothing ∙ zero-*ℤ (product ρ t.vars))
      (ap₂ (λ x y. x +ℤ y) (zeros_value l (first (zeros l) (zeros r) rest)) (zeros_value r (second (zeros l) (zeros r) rest)))

  -- terms that cancel have the sum zero
  pub cancelled : (ts : List Term) → T (zeros (collected ts leaf)) → sum_value ρ ts ≡ pos 0
  cancelled ts h = sym (+ℤ_idr (sum_value ρ ts)) ∙ sym (collected_value ts leaf) ∙ zeros_value (collected ts leaf) h
