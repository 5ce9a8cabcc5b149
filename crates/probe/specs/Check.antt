-- The distance check of a place in a hexahedron of 24 floats, and the locator that is followed by it. Definitions only.
use Rattle.std.specs.Prelude.{ℕ, Bool, not, cond, ◌&&◌, ◌||◌, List, Float}
use Rattle.std.specs.Float.{binary64}
use Rattle.std.specs.Float.Ieee.{of_bits, neg, le, lt}
use Rattle.numbers.specs.Rule.{all}
use Rattle.binary64.specs.Binary64.{◌!◌, f0, infinity, is_zero}
use Rattle.answer.specs.Answer.{Answer, answered, refused, and_then}
use Rattle.hex_image.specs.Image.{image_at}
use Rattle.hex_locate.specs.Locate.{inside, located}

-- 2 ^ -100 and 2 ^ 100
abbrev pub least : Float
least = of_bits binary64 0x39b0_0000_0000_0000

abbrev pub most : Float
most = of_bits binary64 0x4630_0000_0000_0000

abbrev pub between : Float → Bool
between x = le least x && le x most

-- 3: "a corner coordinate is NaN, infinite, or nonzero with size below 2^-100 or above 2^100"; otherwise it is good
abbrev pub good_corner : Float → Bool
good_corner x = is_zero x || between x || between (neg x)

unfoldable pub good_corners : List Float → Bool
good_corners p = all 24 (λ (k : ℕ). good_corner (p ! k))

-- 4: "tolerance NaN, infinite or below zero (minus zero is good)"
abbrev pub good_tolerance : Float → Bool
good_tolerance t = le f0 t && lt t infinity

-- 6: "too far on some axis"; "Accepted exactly when, on all three axes, image <= T and -image <= T."
abbrev pub near_on : Float → Float → Bool
near_on t x = le x t && le (neg x) t

abbrev pub near : List Float → List Float → Float → Bool
near p q t = near_on t (image_at p q ! 0) && near_on t (image_at p q ! 1) && near_on t (image_at p q ! 2)

-- the two rungs with which both ladders begin
abbrev pub good_inputs : List Float → Float → Answer (Unit {0})
good_inputs p t = cond (not (good_corners p)) (refused 3) (cond (not (good_tolerance t)) (refused 4) (answered tt))

-- "Order. Check: 3, 4, 5, 6." An acceptance has no values. 5, "a proposed coordinate not in [-1,1], or NaN", goes by Newton's own inside test.
unfoldable pub checked : List Float → List Float → Float → Answer (Unit {0})
checked p q t =
    cond (not (good_corners p)) (refused 3)
    (cond (not (good_tolerance t)) (refused 4)
    (cond (not (inside q)) (refused 5)
    (cond (not (near p q t)) (refused 6)
    (answered tt))))

-- a located place is kept where its image is near
abbrev pub kept_if_near : List Float → Float → List Float → Answer (List Float)
kept_if_near p t q = cond (not (near p q t)) (refused 6) (answered q)

-- "Checked locator: 3, 4, then 1 or 2, then 6." "The checked locator runs Newton, then this check", and answers Newton's coordinate.
unfoldable pub located_checked : List Float → Float → Answer (List Float)
located_checked p t =
    cond (not (good_corners p)) (refused 3)
    (cond (not (good_tolerance t)) (refused 4)
    (and_then (located p) (kept_if_near p t)))
