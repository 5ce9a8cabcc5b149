-- What stands in a point of a list that is whole stands in the list. Assumes nothing.
use Prim.Native.Nat.{ℕ, zero, suc, ◌+◌, ◌*◌, ◌%◌, ◌<◌}
use native.Mathlib.Nat.{add-zero}
use native.Mathlib.Omega.{arith}
use mathlib.Core.Path.{◌≡◌, ap, sym, ◌∙◌}
use mathlib.Core.Bool.{false}
use mathlib.Core.List.{List}
use lib.Ieee.{Float, nan}
use lib.ListN.{length, drop}
use Rattle.std.specs.Simd.{first_chunks}
use Rattle.std.proofs.lemmas.List.{get_or_past, get_or-take, get_or-drop, length-drop}
use Rattle.binary64.specs.Binary64.{◌!◌}
use Rattle.quadrature.specs.Points.{point_count, not_whole, place, weight, points_of, point}

cut : (w n : ℕ) (list : List Float) → length list ≡ w * n → (k j : ℕ) → j < w → point (first_chunks w n list) k ! j ≡ list ! (w * k + j)
cut w zero list long k j within = sym (get_or_past list (w * k + j) nan (omega (arith, long)))
cut w (suc n) list long zero j within = get_or-take w list j nan within ∙ ap (λ i. list ! i) (omega arith)
cut w (suc n) list long (suc k) j within =
    cut w n (drop w list) (omega (arith, long, length-drop w list)) k j within ∙ get_or-drop w list (w * k + j) nan ∙ ap (λ i. list ! i) (omega arith)

is_whole : (w : ℕ) (list : List Float) → not_whole w list ≡ false → length list % w ≡ 0
is_whole w list whole = grind (arith, whole)

pub point_at : (w : ℕ) (list : List Float) → not_whole w list ≡ false → (k j : ℕ) → j < w → point (points_of w list) k ! j ≡ list ! (w * k + j)
point_at w list whole k j within = cut w (point_count w list) list (omega (arith, is_whole w list whole)) k j within

-- a point of two floats
module _ (list : List Float) (whole : not_whole 2 list ≡ false) (k : ℕ) where
  pub place_at : point (points_of 2 list) k ! 0 ≡ place list k
  place_at = point_at 2 list whole k 0 (omega arith) ∙ ap (λ i. list ! i) (add-zero (2 * k))

  pub weight_at : point (points_of 2 list) k ! 1 ≡ weight list k
  weight_at = point_at 2 list whole k 1 (omega arith)
