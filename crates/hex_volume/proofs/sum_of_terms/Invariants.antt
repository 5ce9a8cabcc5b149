-- `hex_volume::sum_of_terms` meets its contract: a turn adds one term, and nested loops go through the terms in order. Assumes nothing.
use Prim.Native.Nat.{ℕ, ◌+◌, ◌*◌, ◌/◌, ◌%◌}
use mathlib.Core.Path.{◌≡◌}
use mathlib.Core.List.{List}
use lib.Ieee.{Float}
use lib.ListN.{length}
use Rattle.numbers.proofs.Fold.{fold_rows}
use Rattle.binary64.specs.Binary64.{◌⊕◌, f0}
use Rattle.quadrature.specs.Points.{point}
use Rattle.hex_volume.specs.Volume.{term_of}
use Rattle.hex_volume.proofs.sum_of_terms.Given as goal

-- the sum of all rows of terms before row r, and of its first k terms: row n i + j has the terms of points i and j
abbrev pub sum_to : List Float → List (List Float) → ℕ → ℕ → Float
sum_to p points r k =
    let n = length points in
    fold_rows ◌⊕◌ f0 n (λ (r : ℕ). λ (k : ℕ). term_of p (point points (r / n)) (point points (r % n)) (point points k)) r k

abbrev pub invariant-loop-c : goal.invariant-loop-c
invariant-loop-c l = l.sum ≡ sum_to l.p l.points (length l.points * l.a-index + l.b-index) l.c-index

abbrev pub invariant-loop-b : goal.invariant-loop-b
invariant-loop-b l = l.sum ≡ sum_to l.p l.points (length l.points * l.a-index + l.b-index) 0

abbrev pub invariant-loop-a : goal.invariant-loop-a
invariant-loop-a l = l.sum ≡ sum_to l.p l.points (length l.points * l.a-index) 0
