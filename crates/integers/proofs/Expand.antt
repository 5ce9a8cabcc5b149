-- An expression multiplied out: a list of terms with the same value. Assumes nothing.
use Prim.Native.Nat.{ℕ}
use mathlib.Core.Path.{◌≡◌, refl, sym, ◌∙◌, ap, ap₂}
use mathlib.Core.Bool.{true, false}
use mathlib.Core.List.{List, [], ◌∷◌, ◌++◌}
use lib.Dec.{leb}
use lib.IntN.{ℤ, pos, neg_ℤ, ◌+ℤ◌, ◌*ℤ◌, +ℤ_idl, +ℤ_idr, +ℤ_assoc, zero-*ℤ, *ℤ-zero, neg_ℤ-+ℤ}
use lib.ListN.{get_or}
use Rattle.integers.proofs.Ring.{sum_times, times_sum, neg_times, times_assoc, times_left_swap, one_times, times_one}
use Rattle.integers.proofs.Expression.{Expression, number, var, ◌⊞◌, ◌⊠◌, minus, value}

-- a coefficient times variables, whose numbers rise
pub record Term : Type 0 where
  pub coefficient : ℤ
  pub vars : List ℕ

abbrev pub product : List ℤ → List ℕ → ℤ
product ρ [] = pos 1
product ρ (i ∷ is) = get_or ρ i (pos 0) *ℤ product ρ is

abbrev pub term_value : List ℤ → Term → ℤ
term_value ρ t = t.coefficient *ℤ product ρ t.vars

abbrev pub sum_value : List ℤ → List Term → ℤ
sum_value ρ [] = pos 0
sum_value ρ (t ∷ ts) = term_value ρ t +ℤ sum_value ρ ts

abbrev put : ℕ → List ℕ → List ℕ
put i [] = i ∷ []
put i (j ∷ js) = elim (leb i j) [ true ↦ i ∷ j ∷ js | false ↦ j ∷ put i js ]

abbrev merge : List ℕ → List ℕ → List ℕ
merge [] js = js
merge (i ∷ is) js = put i (merge is js)

abbrev times_each : Term → List Term → List Term
times_each t [] = []
times_each t (u ∷ us) = record { coefficient = t.coefficient *ℤ u.coefficient; vars = merge t.vars u.vars } ∷ times_each t us

abbrev times_all : List Term → List Term → List Term
times_all [] us = []
times_all (t ∷ ts) us = times_each t us ++ times_all ts us

abbrev negated : List Term → List Term
negated [] = []
negated (t ∷ ts) = record { coefficient = neg_ℤ t.coefficient; vars = t.vars } ∷ negated ts

abbrev pub expanded : Expression → List Term
expanded (number z) = record { coefficient = z; vars = [] } ∷ []
expanded (var i) = record { coefficient = pos 1; vars = i ∷ [] } ∷ []
expanded (a ⊞ b) = expanded a ++ expanded b
expanded (a ⊠ b) = times_all (expanded a) (expanded b)
expanded (minus a) = negated (expanded a)

module _ (ρ : List ℤ) where
  put_value : (i : ℕ) (js : List ℕ) → product ρ (put i js) ≡ get_or ρ i (pos 0) *ℤ product ρ js
  put_value i [] = refl
  put_value i (j ∷ js) =
      elim (leb i j) as (λ b. product ρ (elim b [ true ↦ i ∷ j ∷ js | false ↦ j ∷ put i js ]) ≡ get_or ρ i (pos 0) *ℤ product ρ (j ∷ js)) [
        | true ↦ refl
        | false ↦ ap (λ x. get_or ρ j (pos 0) *ℤ x) (put_value i js) ∙ times_left_swap (get_or ρ j (pos 0)) (get_or ρ i (pos 0)) (product ρ js)
      ]

  merge_value : (is js : List ℕ) → product ρ (merge is js) ≡ product ρ is *ℤ product ρ js
  merge_value [] js = sym (one_times (product ρ js))
  merge_value (i ∷ is) js =
      put_value i (merge is js) ∙ ap (λ x. get_or ρ i (pos 0) *ℤ x) (merge_value is js)
      ∙ sym (times_assoc (get_or ρ i (pos 0)) (product ρ is) (product ρ js))

  append_value : (ts us : List Term) → sum_value ρ (ts ++ us) ≡ sum_value ρ ts +ℤ sum_value ρ us
  append_value [] us = sym (+ℤ_idl (sum_value ρ us))
  append_value (t ∷ ts) us =
      ap (λ x. term_value ρ t +ℤ x) (append_value ts us) ∙ sym (+ℤ_assoc (term_value ρ t) (sum_value ρ ts) (sum_value ρ us))

  -- (a b) (c d) = (a c) (b d)
  crossed : (a b c d : ℤ) → (a *ℤ b) *ℤ (c *ℤ d) ≡ (a *ℤ c) *ℤ (b *ℤ d)
  crossed a b c d = times_assoc a b (c *ℤ d) ∙ ap (λ x. a *ℤ x) (times_left_swap b c d) ∙ sym (times_assoc a c (b *ℤ d))

  times_each_value : (t : Term) (us : List Term) → sum_value ρ (times_each t us) ≡ term_value ρ t *ℤ sum_value ρ us
  times_each_value t [] = sym (*ℤ-zero (term_value ρ t))
  times_each_value t (u ∷ us) =
      ap₂ (λ x y. x +ℤ y)
      (ap (λ x. (t.coefficient *ℤ u.coefficient) *ℤ x) (merge_value t.vars u.vars)
      ∙ crossed t.coefficient u.coefficient (product ρ t.vars) (product ρ u.vars))
      (times_each_value t us)
      ∙ sym (times_sum (term_value ρ t) (term_value ρ u) (sum_value ρ us))

  times_all_value : (ts us : List Term) → sum_value ρ (times_all ts us) ≡ sum_value ρ ts *ℤ sum_value ρ us
  times_all_value [] us = sym (zero-*ℤ (sum_value ρ us))
  times_all_value (t ∷ ts) us =
      append_value (times_each t us) (times_all ts us) ∙ ap₂ (λ x y. x +ℤ y) (times_each_value t us) (times_all_value ts us)
      ∙ sym (sum_times (term_value ρ t) (sum_value ρ ts) (sum_value ρ us))

  negated_value : (ts : List Term) → sum_value ρ (negated ts) ≡ neg_ℤ (sum_value ρ ts)
  negated_value [] = refl
  negated_value (t ∷ ts) =
      ap₂ (λ x y. x +ℤ y) (neg_times t.coefficient (product ρ t.vars)) (negated_value ts)
      ∙ sym (neg_ℤ-+ℤ (term_value ρ t) (sum_value ρ ts))

  pub expanded_value : (e : Expression) → sum_value ρ (expanded e) ≡ value ρ e
  expanded_value (number z) = +ℤ_idr (z *ℤ pos 1) ∙ times_one z
  expanded_value (var i) = +ℤ_idr (pos 1 *ℤ (get_or ρ i (pos 0) *ℤ pos 1)) ∙ one_times (get_or ρ i (pos 0) *ℤ pos 1) ∙ times_one (get_or ρ i (pos 0))
  expanded_value (a ⊞ b) = append_value (expanded a) (expanded b) ∙ ap₂ (λ x y. x +ℤ y) (expanded_value a) (expanded_value b)
  expanded_value (a ⊠ b) = times_all_value (expanded a) (expanded b) ∙ ap₂ (λ x y. x *ℤ y) (expanded_value a) (expanded_value b)
  expanded_value (minus a) = negated_value (expanded a) ∙ ap neg_ℤ (expanded_value a)
