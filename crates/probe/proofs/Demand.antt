-- Demand 3: what is accepted lies at most T + e from the origin, and what lies at most T - e from it is accepted. Assumes nothing.
use Prim.Native.Nat.{ℕ, ◌+◌, ◌*◌, ◌<◌}
use native.Mathlib.Omega.{arith}
use mathlib.Core.Path.{◌≡◌, refl, sym, ap, ◌∙◌, subst}
use mathlib.Core.Bool.{Bool}
use mathlib.Core.List.{List}
use lib.Dec.{T, lit≤}
use lib.Ieee.{Float, binary64, fits}
use Rattle.numbers.proofs.Tests.{all_at}
use Rattle.binary64.specs.Binary64.{◌!◌}
use Rattle.answer.specs.Answer.{Answer, answered, and_then}
use Rattle.cell.specs.Image.{corner}
use Rattle.cell.specs.Newton.{coords}
use Rattle.cell.specs.declared.Point.{Point}
use Rattle.hex_image.specs.Image.{image_at}
use Rattle.hex_locate.specs.Locate.{within, inside, located}
use Rattle.probe.specs.Check.{good_corner, good_corners, good_tolerance, near_on, near, checked, kept_if_near, located_checked}
use Rattle.probe.specs.Exact.{AtMostTPlusE, AtMostTMinusE}
use Rattle.probe.specs.Demand.{AcceptedIsNear, NearIsAccepted, Floats, Demand3}
use Rattle.std.specs.Prelude.{Result, Ok}
use Rattle.answer.specs.Told.{told}
use Rattle.answer.specs.declared.Refusal.{Refusal}
use Rattle.answer.proofs.Told.{told_loses_nothing}
use Rattle.answer.proofs.Answers.{passed, pass, then_answered, answered_same}
use Rattle.probe.proofs.Image.{Good, Place, image_balance, image_close}
use Rattle.probe.proofs.Inputs.{coordinate, good, tolerance, each_axis, all_axes}
use Rattle.probe.proofs.Located.{located_inside, located_fits}
use Rattle.rounding.proofs.Accept.{accepted_near, near_accepted}

-- ---- of the test on the three axes, for inputs that refusals 3, 4 and 5 let pass
module _
    (p q : List Float) (t : Float) (p_fits : Floats 24 p) (q_fits : Floats 3 q) (t_fits : T (fits binary64 t))
    (corners : T (good_corners p)) (tol : T (good_tolerance t)) (place : T (inside q))
  where
    at : Place q
    at j below = coordinate (q ! j) (q_fits j below) (each_axis (λ (j : ℕ). within (q ! j)) place j below)

    axis : (i : ℕ) → i < 3 → (k : ℕ) → k < 8 → Good (corner p k i)
    unfolding good_corners
    axis i i_below k k_below =
        let below : 3 * k + i < 24 = omega arith in
        good (p ! (3 * k + i)) (p_fits (3 * k + i) below) (all_at 24 (λ (k : ℕ). good_corner (p ! k)) corners (3 * k + i) below)

    abbrev test : ℕ → Bool
    test i = near_on t (image_at p q ! i)

    near_sound : T (near p q t) → AtMostTPlusE p q t
    near_sound passed i below =
        let image = image_close p q i at (axis i below) below in
        let exact = image_balance p q i at (axis i below) in
        accepted_near image exact (tolerance t t_fits tol) (each_axis test passed i below)

    near_complete : AtMostTMinusE p q t → T (near p q t)
    near_complete well = all_axes test one
      where
        one : (i : ℕ) → i < 3 → T (test i)
        one i below =
            let image = image_close p q i at (axis i below) below in
            let exact = image_balance p q i at (axis i below) in
            near_accepted image exact (tolerance t t_fits tol) (lit≤ tt) (well i below)

-- ---- of the check
module _ (p q : List Float) (t : Float) (p_fits : Floats 24 p) (q_fits : Floats 3 q) (t_fits : T (fits binary64 t)) where
  checked_sound : AcceptedIsNear (checked p q t ≡ answered tt) p q t
  unfolding checked
  checked_sound e =
      let corners = passed (good_corners p) 3 _ tt e in
      let tol = passed (good_tolerance t) 4 _ tt corners.on in
      let place = passed (inside q) 5 _ tt tol.on in
      near_sound p q t p_fits q_fits t_fits corners.test tol.test place.test (passed (near p q t) 6 _ tt place.on).test

  checked_complete : T (inside q) → NearIsAccepted (checked p q t ≡ answered tt) p q t
  unfolding checked
  checked_complete place corners tol well =
      pass (good_corners p) 3 _ tt corners
      (pass (good_tolerance t) 4 _ tt tol
      (pass (inside q) 5 _ tt place
      (pass (near p q t) 6 _ tt (near_complete p q t p_fits q_fits t_fits corners tol place well) refl)))

-- ---- of the checked locator
module _ (p : List Float) (t : Float) (p_fits : Floats 24 p) (t_fits : T (fits binary64 t)) where
  located_sound : (q : List Float) → AcceptedIsNear (located_checked p t ≡ answered q) p q t
  unfolding located_checked
  located_sound q e =
      let corners = passed (good_corners p) 3 _ q e in
      let tol = passed (good_tolerance t) 4 _ q corners.on in
      let found = then_answered (located p) (kept_if_near p t) q tol.on in
      let r = found.value in
      let kept = passed (near p r t) 6 (answered r) q found.next in
      subst (λ (l : List Float). AtMostTPlusE p l t) (answered_same kept.on)
      (near_sound p r t p_fits (located_fits p r found.is) t_fits corners.test tol.test (located_inside p r found.is) kept.test)

  located_complete : (q : List Float) → located p ≡ answered q → NearIsAccepted (located_checked p t ≡ answered q) p q t
  unfolding located_checked
  located_complete q found corners tol well =
      let passes = near_complete p q t p_fits (located_fits p q found) t_fits corners tol (located_inside p q found) well in
      pass (good_corners p) 3 _ q corners
      (pass (good_tolerance t) 4 _ q tol
      (ap (λ (a : Answer (List Float)). and_then a (kept_if_near p t)) found ∙ pass (near p q t) 6 (answered q) q passes refl))

pub demand : Demand3
demand =
    record {
      sound = λ p q t. checked_sound p q t;
      complete = λ p q t. checked_complete p q t;
      located_sound = λ p q t p_fits t_fits. located_sound p t p_fits t_fits q;
      located_complete = λ p q t p_fits t_fits. located_complete p t p_fits t_fits q;
    }

-- ---- the promises of the two functions, from what is told of their answers
pub check_promises : (p : List Float) (at : Point) (t : Float) (r : Result (Unit {0}) Refusal) → Floats 24 p → Floats 3 (coords at) → T (fits binary64 t)
    → told r ≡ checked p (coords at) t
    → (told r ≡ checked p (coords at) t) × (AcceptedIsNear (r ≡ Ok tt) p (coords at) t
    × (T (inside (coords at)) → NearIsAccepted (r ≡ Ok tt) p (coords at) t))
check_promises p at t r p_fits q_fits t_fits e =
    let q = coords at in (
      e,
      (
        λ accepted. checked_sound p q t p_fits q_fits t_fits (sym e ∙ ap told accepted),
        λ place corners tol well. told_loses_nothing (Unit {0}) r (Ok tt) (e ∙ checked_complete p q t p_fits q_fits t_fits place corners tol well),
      ),
    )

pub locate_promises : (p : List Float) (t : Float) (r : Result (List Float) Refusal) → Floats 24 p → T (fits binary64 t) → told r ≡ located_checked p t
    → (told r ≡ located_checked p t) × (((q : List Float) → AcceptedIsNear (told r ≡ answered q) p q t)
    × ((q : List Float) → located p ≡ answered q → NearIsAccepted (told r ≡ answered q) p q t))
locate_promises p t r p_fits t_fits e = (
  e,
  (
    λ q kept. located_sound p t p_fits t_fits q (sym e ∙ kept),
    λ q found corners tol well. e ∙ located_complete p t p_fits t_fits q found corners tol well,
  ),
)
