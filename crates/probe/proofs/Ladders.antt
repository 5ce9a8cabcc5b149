-- The two rungs with which both ladders begin: what a pass says of the inputs, and that a refusal is the ladder's. Assumes nothing.
use Prim.Native.Nat.{ℕ}
use mathlib.Core.Path.{◌≡◌, refl, sym}
use mathlib.Core.Bool.{Bool, true, false, not, cond}
use mathlib.Core.List.{List}
use lib.Dec.{T}
use lib.Ieee.{Float}
use Rattle.answer.specs.Answer.{Answer, answered, refused}
use Rattle.answer.proofs.Answers.{passed, never}
use Rattle.probe.specs.Check.{good_corners, good_tolerance, good_inputs}

is_true : (b : Bool) → T b → b ≡ true
is_true true h = refl
is_true false h = absurd h

refused_before : {A : Type 0} (a b : Bool) (n : ℕ) (rest : Answer A) → ◌≡◌ {A = Answer (Unit {0})} (refused n) (cond (not a) (refused 3) (cond (not b) (refused 4) (answered tt)))
    → refused n ≡ cond (not a) (refused 3) (cond (not b) (refused 4) rest)
refused_before true true n rest e = absurd (never n tt e)
refused_before true false n rest e = cc
refused_before false b n rest e = cc

module _ (p : List Float) (t : Float) where
  pub inputs_pass : answered tt ≡ good_inputs p t → (good_corners p ≡ true) × (good_tolerance t ≡ true)
  inputs_pass e =
      let corners = passed (good_corners p) 3 _ tt (sym e) in
      (is_true _ corners.test, is_true _ (passed (good_tolerance t) 4 _ tt corners.on).test)

  pub inputs_refused : {A : Type 0} {n : ℕ} → refused n ≡ good_inputs p t → (rest : Answer A)
      → refused n ≡ cond (not (good_corners p)) (refused 3) (cond (not (good_tolerance t)) (refused 4) rest)
  inputs_refused e rest = refused_before (good_corners p) (good_tolerance t) _ rest e
