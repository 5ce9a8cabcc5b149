-- `prism_volume::sum_of_terms` meets its contract: a turn adds one term, and nested loops go through the terms in order. Assumes nothing.
use Prim.Native.Nat.{ℕ}
use mathlib.Core.Path.{◌≡◌}
use mathlib.Core.List.{List}
use lib.Ieee.{Float}
use lib.ListN.{length}
use Rattle.numbers.proofs.Fold.{fold_rows}
use Rattle.binary64.specs.Binary64.{◌⊕◌, f0}
use Rattle.quadrature.specs.Points.{point}
use Rattle.prism_volume.specs.Volume.{term_of}
use Rattle.prism_volume.proofs.sum_of_terms.Given as goal

-- the sum of the terms of all line points before i, and of the first j terms of line point i
abbrev pub sum_to : List Float → List (List Float) → List (List Float) → ℕ → ℕ → Float
sum_to p line triangle i j =
    fold_rows ◌⊕◌ f0 (length triangle) (λ (i : ℕ). λ (j : ℕ). term_of p (point line i) (point triangle j)) i j

abbrev pub invariant-loop-triangle : goal.invariant-loop-triangle
invariant-loop-triangle l = l.volume ≡ sum_to l.p l.quad_l l.quad_t l.line-index l.triangle-index

abbrev pub invariant-loop-line : goal.invariant-loop-line
invariant-loop-line l = l.volume ≡ sum_to l.p l.quad_l l.quad_t l.line-index 0
