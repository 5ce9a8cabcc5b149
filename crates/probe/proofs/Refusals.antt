-- The numbers by which the check and the checked locator refuse: 0 is none of them, so it tells an acceptance. Assumes nothing.
use Prim.Native.Nat.{ℕ}
use mathlib.Core.Path.{◌≡◌, sym, ap, ◌∙◌}
use mathlib.Core.Bool.{not}
use mathlib.Core.List.{List, [], ◌∷◌}
use lib.Ieee.{Float}
use Rattle.answer.specs.Answer.{answered, number_of, RefusesBy}
use Rattle.answer.proofs.Answers.{refuses_unless, refuses_then, zero_tells_an_answer}
use Rattle.hex_locate.specs.Locate.{inside, located}
use Rattle.hex_locate.proofs.Refusals.{located_refuses}
use Rattle.probe.specs.Check.{good_corners, good_tolerance, near, checked, kept_if_near, located_checked}
use Rattle.std.specs.Prelude.{Result, Ok}
use Rattle.answer.specs.Told.{told}
use Rattle.answer.specs.declared.Refusal.{Refusal}
use Rattle.answer.proofs.Told.{told_loses_nothing}

abbrev of_check : List ℕ
of_check = 3 ∷ 4 ∷ 5 ∷ 6 ∷ []

pub checked_refuses : (p q : List Float) (t : Float) → RefusesBy of_check (checked p q t)
unfolding checked
checked_refuses p q t =
    refuses_unless of_check (not (good_corners p)) 3 _ tt
    (refuses_unless of_check (not (good_tolerance t)) 4 _ tt
    (refuses_unless of_check (not (inside q)) 5 _ tt
    (refuses_unless of_check (not (near p q t)) 6 (answered tt) tt tt)))

pub zero_accepts : (p q : List Float) (t : Float) → number_of (checked p q t) ≡ 0 → checked p q t ≡ answered tt
zero_accepts p q t zero = (zero_tells_an_answer (Unit {0}) of_check (checked p q t) tt (checked_refuses p q t) zero).1

abbrev of_locator : List ℕ
of_locator = 3 ∷ 4 ∷ 1 ∷ 2 ∷ 6 ∷ []

pub located_checked_refuses : (p : List Float) (t : Float) → RefusesBy of_locator (located_checked p t)
unfolding located_checked
located_checked_refuses p t =
    refuses_unless of_locator (not (good_corners p)) 3 _ tt
    (refuses_unless of_locator (not (good_tolerance t)) 4 _ tt
    (refuses_then of_locator (located p) (kept_if_near p t) (located_refuses of_locator p tt tt)
    (λ q. refuses_unless of_locator (not (near p q t)) 6 (answered q) tt tt)))

-- so a verdict of which 0 is told is an acceptance
pub accepted_by_zero : (p q : List Float) (t : Float) (v : Result (Unit {0}) Refusal) → told v ≡ checked p q t → number_of (told v) ≡ 0 → v ≡ Ok tt
accepted_by_zero p q t v e zero = told_loses_nothing (Unit {0}) v (Ok tt) (e ∙ zero_accepts p q t (ap number_of (sym e) ∙ zero))
