-- How Newton's steps end. Assumes nothing.
use Prim.Native.Nat.{ℕ, ◌+◌, ◌-◌, ◌≤◌, ◌<◌}
use native.Mathlib.Omega.{arith}
use mathlib.Core.Path.{◌≡◌, sym, ◌∙◌, ap, subst}
use mathlib.Core.Bool.{Bool, true, false, cond}
use mathlib.Core.List.{List}
use lib.Ieee.{Float}
use Rattle.answer.specs.Answer.{Answer, answered, refused, and_then, after}
use Rattle.answer.proofs.Steps.{one_more, stays}
use Rattle.mat3_col_major.specs.Mat3.{transposed, product, det}
use Rattle.mat3_inverse.specs.Inverse.{inverse}
use Rattle.cell.specs.Newton.{less_by, step_by, step_from, verdict, newton, ToldLosesNothing}
use Rattle.cell.specs.declared.Located.TheVariants.{Inside, Flat, Outside}
use Rattle.answer.proofs.Answers.{never, answered_same}
use Rattle.binary64.specs.Binary64.{is_zero}

-- one step, where there is an inverse and where there is none
module _ (q image jacobian : List Float) {column : List Float} (by_columns : column ≡ transposed jacobian) where
  pub step_refused : {n : ℕ} → refused n ≡ inverse column → refused n ≡ step_from q image jacobian
  unfolding step_from
  step_refused none = ap (step_by q image) (none ∙ ap inverse by_columns)

  pub step_taken : {m to : List Float} → answered m ≡ inverse column → to ≡ less_by q (product m image) → answered to ≡ step_from q image jacobian
  unfolding step_from
  step_taken found less = ap answered less ∙ ap (step_by q image) (found ∙ ap inverse by_columns)

-- no step is refused by another number than 1
by_one : (b : Bool) (v : List Float) {n : ℕ} → ◌≡◌ {A = Answer (List Float)} (refused n) (cond b (refused 1) (answered v)) → n ≡ 1
by_one true v e = cc
by_one false v {n = n} e = absurd (never n v e)

taken : (a : Answer (List Float)) (f : List Float → List Float) {n : ℕ} → refused n ≡ and_then a (λ m. answered (f m)) → refused n ≡ a
taken (answered m) f {n = n} e = absurd (never n (f m) e)
taken (refused k) f e = e

pub only_flat : (q image jacobian : List Float) {n : ℕ} → refused n ≡ step_from q image jacobian → n ≡ 1
unfolding step_from inverse
only_flat q image jacobian e = by_one (is_zero (det (transposed jacobian))) _ (taken (inverse (transposed jacobian)) _ e)

-- two answers of a locator that are told alike are one
pub told_loses_nothing : ToldLosesNothing
told_loses_nothing (Inside a) (Inside b) h = ap Inside (answered_same h)
told_loses_nothing (Inside a) Flat h = cc
told_loses_nothing (Inside a) Outside h = cc
told_loses_nothing Flat (Inside b) h = cc
told_loses_nothing Flat Flat h = λ i. Flat
told_loses_nothing Flat Outside h = cc
told_loses_nothing Outside (Inside b) h = cc
told_loses_nothing Outside Flat h = cc
told_loses_nothing Outside Outside h = λ i. Outside

-- before step i the search stands at this place
pub record Reached (step : List Float → Answer (List Float)) (start : List Float) (i steps : ℕ) (at : List Float) : Type 0 where
  pub early : i ≤ steps
  pub there : after step start i ≡ answered at

module _ {step : List Float → Answer (List Float)} {start : List Float} {steps : ℕ} where
  pub at_the_start : {at : List Float} → at ≡ start → Reached step start 0 steps at
  unfolding after
  at_the_start same = record { early = omega arith; there = ap answered (sym same) }

  module _ {i : ℕ} {at : List Float} (reached : Reached step start i steps at) where
    pub one_step_on : {to : List Float} → i < steps → answered to ≡ step at → Reached step start (i + 1) steps to
    one_step_on below found = record { early = omega arith; there = one_more step start i at _ reached.there found }

    -- a step that is refused before the last is the answer
    pub refused_early : {n : ℕ} (inside : List Float → Bool) → i < steps → refused n ≡ step at → refused n ≡ newton steps step start inside
    refused_early {n = n} inside below found =
        let whole : steps - (i + 1) + (i + 1) ≡ steps = omega arith in
        let here = one_more step start i at (refused n) reached.there found in
        let last = subst (λ (m : ℕ). after step start m ≡ refused n) whole (stays step start (i + 1) (steps - (i + 1)) n here) in
        sym (ap (λ (a : Answer (List Float)). and_then a (verdict inside)) last)

    -- after the last the inside test decides
    pub decided : {a : Answer (List Float)} (inside : List Float → Bool) → i ≡ steps → a ≡ verdict inside at → a ≡ newton steps step start inside
    decided inside done is =
        is ∙ sym (ap (λ (a : Answer (List Float)). and_then a (verdict inside)) (ap (after step start) (sym done) ∙ reached.there))
