-- Two expressions are equal at all values of their variables where the terms of their difference cancel: one computed test. Assumes nothing.
use mathlib.Core.Path.{◌≡◌, refl, sym, ◌∙◌, ap₂}
use mathlib.Core.Bool.{Bool, true, false, ◌&&◌}
use mathlib.Core.List.{List, [], ◌∷◌, map}
use lib.Dec.{T}
use lib.IntN.{ℤ}
use Rattle.numbers.proofs.Tests.{first, second}
use Rattle.integers.proofs.Ring.{equal_where_no_difference}
use Rattle.integers.proofs.Expression.{Expression, ◌⊞◌, minus, value}
use Rattle.integers.proofs.Expand.{expanded, expanded_value}
use Rattle.integers.proofs.Collect.{leaf, collected, zeros, cancelled}

abbrev pub same : Expression → Expression → Bool
same a b = zeros (collected (expanded (a ⊞ minus b)) leaf)

pub solve : (ρ : List ℤ) (a b : Expression) → T (same a b) → value ρ a ≡ value ρ b
solve ρ a b t =
    equal_where_no_difference (value ρ a) (value ρ b)
    (sym (expanded_value ρ (a ⊞ minus b)) ∙ cancelled ρ (expanded (a ⊞ minus b)) t)

-- the same of two lists, one by one
abbrev pub same_each : List Expression → List Expression → Bool
same_each [] [] = true
same_each [] (f ∷ fs) = false
same_each (e ∷ es) [] = false
same_each (e ∷ es) (f ∷ fs) = same e f && same_each es fs

pub solve_each : (ρ : List ℤ) (es fs : List Expression) → T (same_each es fs) → map (value ρ) es ≡ map (value ρ) fs
solve_each ρ [] [] t = refl
solve_each ρ [] (f ∷ fs) t = absurd t
solve_each ρ (e ∷ es) [] t = absurd t
solve_each ρ (e ∷ es) (f ∷ fs) t =
    ap₂ (λ x y. x ∷ y) (solve ρ e f (first (same e f) (same_each es fs) t)) (solve_each ρ es fs (second (same e f) (same_each es fs) t))
