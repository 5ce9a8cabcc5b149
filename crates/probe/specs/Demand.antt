-- Demand 3: what an acceptance is worth, for every cell, place and tolerance. Definitions and claims only.
use Rattle.std.specs.Prelude.{ℕ, ◌<◌, ◌≡◌, List, T, Float}
use Rattle.std.specs.Float.{binary64}
use Rattle.std.specs.Float.Ieee.{fits}
use Rattle.binary64.specs.Binary64.{◌!◌}
use Rattle.answer.specs.Answer.{answered}
use Rattle.hex_locate.specs.Locate.{inside, located}
use Rattle.probe.specs.Check.{good_corners, good_tolerance, checked, located_checked}
use Rattle.probe.specs.Exact.{AtMostTPlusE, AtMostTMinusE}

-- "Accepted: the exact image is at most T + e from the origin on every axis", whatever says that q is accepted
abbrev pub AcceptedIsNear : Type 0 → List Float → List Float → Float → Type 0
AcceptedIsNear accepted p q t = accepted → AtMostTPlusE p q t

-- "Exact image at most T - e on every axis: accepted", for "corners zero or 2^-100..2^100 in size" and "finite T >= 0"
abbrev pub NearIsAccepted : Type 0 → List Float → List Float → Float → Type 0
NearIsAccepted accepted p q t = T (good_corners p) → T (good_tolerance t) → AtMostTMinusE p q t → accepted

-- the first n of a list are floats that binary64 holds, as are all floats that a program is handed
abbrev pub Floats : ℕ → List Float → Type 0
Floats n l = (k : ℕ) → k < n → T (fits binary64 (l ! k))

-- Both halves, of the check at "any place in [-1,1]^3" and of the checked locator at the place that Newton finds.
pub record Demand3 : Type 0 where
  pub sound : (p q : List Float) (t : Float) → Floats 24 p → Floats 3 q → T (fits binary64 t) → AcceptedIsNear (checked p q t ≡ answered tt) p q t
  pub complete :
      (p q : List Float) (t : Float) → Floats 24 p → Floats 3 q → T (fits binary64 t) → T (inside q) → NearIsAccepted (checked p q t ≡ answered tt) p q t
  pub located_sound : (p q : List Float) (t : Float) → Floats 24 p → T (fits binary64 t) → AcceptedIsNear (located_checked p t ≡ answered q) p q t
  pub located_complete :
      (p q : List Float) (t : Float) → Floats 24 p → T (fits binary64 t) → located p ≡ answered q → NearIsAccepted (located_checked p t ≡ answered q) p q t
