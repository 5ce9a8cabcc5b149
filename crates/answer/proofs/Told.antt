-- Two results that are told alike are one, and so are two without a value that have the same number: each refusal has a number of its own, and none is 0.
-- Assumes nothing.
use native.Mathlib.Omega.{arith}
use Rattle.std.specs.Prelude.{ℕ, ◌≡◌, List, [], ◌∷◌, get_or, Ok, Err}
use mathlib.Core.Path.{refl, ap, sym, ◌∙◌}
use Rattle.answer.specs.Answer.{Answer, refused}
use Rattle.answer.specs.Told.{number, ToldLosesNothing, NumberLosesNothing}
use Rattle.answer.specs.declared.Refusal.{Refusal}
use Rattle.answer.specs.declared.Refusal.TheVariants.{Flat, Outside, Corner, Tolerance, Coordinate, TooFar, Limit, Length, Range, Twice, Mark, Version, FileLength, Twisted, OffGrid}
use Rattle.answer.proofs.Answers.{answered_same, never}

-- the refusals by their numbers; no refusal is 0, and Flat stands in for it
abbrev by_number : List Refusal
by_number = Flat ∷ Flat ∷ Outside ∷ Corner ∷ Tolerance ∷ Coordinate ∷ TooFar ∷ Limit ∷ Length ∷ Range ∷ Twice ∷ Mark ∷ Version ∷ FileLength ∷ Twisted ∷ OffGrid ∷ []

found : (r : Refusal) → get_or by_number (number r) Flat ≡ r
found Flat = refl
found Outside = refl
found Corner = refl
found Tolerance = refl
found Coordinate = refl
found TooFar = refl
found Limit = refl
found Length = refl
found Range = refl
found Twice = refl
found Mark = refl
found Version = refl
found FileLength = refl
found Twisted = refl
found OffGrid = refl

one_refusal : (r s : Refusal) → number r ≡ number s → r ≡ s
one_refusal r s h = sym (found r) ∙ ap (λ n. get_or by_number n Flat) h ∙ found s

no_zero : (r : Refusal) → number r ≡ 0 → ⊥
no_zero r h =
    let one : number Flat ≡ 0 = ap number (sym (ap (λ n. get_or by_number n Flat) h) ∙ found r) ∙ h in
    omega (arith, one)

refused_same : {A : Type 0} {m n : ℕ} → ◌≡◌ {A = Answer A} (refused m) (refused n) → m ≡ n
refused_same e = cc

pub told_loses_nothing : ToldLosesNothing
told_loses_nothing A (Ok v) (Ok w) h = ap Ok (answered_same h)
told_loses_nothing A (Ok v) (Err s) h = absurd (never (number s) v (sym h))
told_loses_nothing A (Err r) (Ok w) h = absurd (never (number r) w h)
told_loses_nothing A (Err r) (Err s) h = ap Err (one_refusal r s (refused_same h))

pub number_loses_nothing : NumberLosesNothing
number_loses_nothing (Ok v) (Ok w) h = refl
number_loses_nothing (Ok v) (Err s) h = absurd (no_zero s (sym h))
number_loses_nothing (Err r) (Ok w) h = absurd (no_zero r h)
number_loses_nothing (Err r) (Err s) h = ap Err (one_refusal r s h)
