-- The numbers by which Newton's search is refused: the step's, and 2 where the inside test fails. Assumes nothing.
use Prim.Native.Nat.{ℕ}
use mathlib.Core.Bool.{Bool}
use mathlib.Core.List.{List}
use lib.Dec.{T}
use lib.Ieee.{Float}
use Rattle.binary64.specs.Binary64.{is_zero}
use Rattle.answer.specs.Answer.{Answer, answered, after, is_one_of, RefusesBy}
use Rattle.answer.proofs.Answers.{refuses_unless, refuses_else, refuses_then}
use Rattle.answer.proofs.Steps.{refuses_after}
use Rattle.mat3_col_major.specs.Mat3.{transposed, product, det}
use Rattle.mat3_inverse.specs.Inverse.{inverse}
use Rattle.cell.specs.Newton.{less_by, step_from, verdict, locate}

pub inverse_refuses : (ns : List ℕ) (m : List Float) → T (is_one_of ns 1) → RefusesBy ns (inverse m)
unfolding inverse
inverse_refuses ns m one = refuses_unless ns (is_zero (det m)) 1 _ one tt

pub step_refuses : (ns : List ℕ) (q image jacobian : List Float) → T (is_one_of ns 1) → RefusesBy ns (step_from q image jacobian)
unfolding step_from
step_refuses ns q image jacobian one =
    let move : List Float → Answer (List Float) = λ m. answered (less_by q (product m image)) in
    refuses_then ns (inverse (transposed jacobian)) move (inverse_refuses ns (transposed jacobian) one) (λ m. tt)

module _ (ns : List ℕ) (step : List Float → Answer (List Float)) (start : List Float) (steps : (q : List Float) → RefusesBy ns (step q)) where
  pub locate_refuses : (inside : List Float → Bool) → T (is_one_of ns 2) → RefusesBy ns (locate step start inside)
  locate_refuses inside two =
      refuses_then ns (after step start 20) (verdict inside) (refuses_after step start ns steps 20) (λ q. refuses_else ns (inside q) q 2 two)
