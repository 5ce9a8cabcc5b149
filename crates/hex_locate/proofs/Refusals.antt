-- The numbers by which the locator refuses: 1 for a step that finds no inverse, 2 for a place outside the cube. Assumes nothing.
use Prim.Native.Nat.{ℕ}
use mathlib.Core.List.{List}
use lib.Dec.{T}
use lib.Ieee.{Float}
use Rattle.answer.specs.Answer.{is_one_of, RefusesBy}
use Rattle.cell.proofs.Refusals.{step_refuses, locate_refuses}
use Rattle.hex_image.specs.Image.{image_at, jacobian_at}
use Rattle.hex_locate.specs.Locate.{step, start, inside, located}

pub located_refuses : (ns : List ℕ) (p : List Float) → T (is_one_of ns 1) → T (is_one_of ns 2) → RefusesBy ns (located p)
unfolding located step
located_refuses ns p one two = locate_refuses ns (step p) start (λ q. step_refuses ns q (image_at p q) (jacobian_at p q) one) inside two
