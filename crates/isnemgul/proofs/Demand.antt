-- What the 0 of a C function tells: demand 3, from what its Rattle function promises of the answer that was written. Assumes nothing.
use Prim.Native.Nat.{ℕ}
use mathlib.Core.Path.{◌≡◌, sym, ap, ◌∙◌, subst}
use mathlib.Core.List.{List, [], ◌∷◌}
use lib.Dec.{T}
use lib.Ieee.{Float}
use Rattle.answer.specs.Answer.{Answer, answered, Leaves, number_of, RefusesBy}
use Rattle.answer.proofs.Answers.{leaves_zero, leaves_answered}
use Rattle.hex_locate.specs.Locate.{inside, located}
use Rattle.std.specs.Prelude.{Result, Ok}
use Rattle.answer.specs.Told.{told}
use Rattle.answer.specs.declared.Refusal.{Refusal}
use Rattle.probe.specs.Check.{checked, located_checked}
use Rattle.probe.specs.Demand.{AcceptedIsNear, NearIsAccepted}
use Rattle.probe.proofs.Refusals.{accepted_by_zero}
use Rattle.refusals.proofs.Numbers.{refusals_numbered}

pub check_told : (p q : List Float) (t : Float) (v : Result (Unit {0}) Refusal) (r : ℕ) → r ≡ number_of (told v)
    → (told v ≡ checked p q t) × (AcceptedIsNear (v ≡ Ok tt) p q t × (T (inside q) → NearIsAccepted (v ≡ Ok tt) p q t))
    → (r ≡ number_of (checked p q t)) × (AcceptedIsNear (r ≡ 0) p q t × (T (inside q) → NearIsAccepted (r ≡ 0) p q t))
check_told p q t v r said judged = (
  said ∙ ap number_of judged.0,
  (
    λ zero. judged.1.0 (accepted_by_zero p q t v judged.0 (sym said ∙ zero)),
    λ place good finite well. said ∙ ap (λ (v : Result (Unit {0}) Refusal). number_of (told v)) (judged.1.1 place good finite well),
  ),
)

pub locate_told : (p : List Float) (t : Float) (v : Result (List Float) Refusal) (r : ℕ) (old new : List Float) → Leaves (told v) r old new
    → (told v ≡ located_checked p t) × (((q : List Float) → AcceptedIsNear (told v ≡ answered q) p q t)
    × ((q : List Float) → located p ≡ answered q → NearIsAccepted (told v ≡ answered q) p q t))
    → Leaves (located_checked p t) r old new × (AcceptedIsNear (r ≡ 0) p new t
    × ((q : List Float) → located p ≡ answered q → NearIsAccepted ((r ≡ 0) × (new ≡ q)) p q t))
locate_told p t v r old new wrote found =
    let whole : Leaves (located_checked p t) r old new = subst (λ (a : Answer (List Float)). Leaves a r old new) found.0 wrote in (
      whole,
      (
        λ zero. found.1.0 new (found.0 ∙ leaves_zero (3 ∷ 4 ∷ 1 ∷ 2 ∷ 6 ∷ []) (located_checked p t) r old new tt (refusals_numbered.of_locator p t) whole zero),
        λ q place good finite well. leaves_answered (told v) r old new q wrote (found.1.1 q place good finite well),
      ),
    )

-- a 0 of the list tells how many were accepted
pub list_told : (a b : Answer ℕ) (r old new : ℕ) → Leaves a r old new → a ≡ b → RefusesBy (7 ∷ 8 ∷ []) b → r ≡ 0 → a ≡ answered new
list_told a b r old new wrote same refuses zero =
    same ∙ leaves_zero (7 ∷ 8 ∷ []) b r old new tt refuses (subst (λ (c : Answer ℕ). Leaves c r old new) same wrote) zero
