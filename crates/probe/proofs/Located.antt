-- A located place lies in the cube, and its coordinates are floats that the format holds. Assumes nothing.
use Prim.Native.Nat.{ℕ, ◌<◌}
use mathlib.Core.Path.{◌≡◌, sym, subst}
use mathlib.Core.Bool.{Bool, true, false, cond}
use mathlib.Core.List.{List}
use lib.Dec.{T}
use lib.Ieee.{Float, nan, binary64, fits}
use lib.Ieee.Fits.{sub-fits}
use Rattle.numbers.proofs.Tabulate.{tabulate_at}
use Rattle.binary64.specs.Binary64.{◌!◌, ◌⊖◌}
use Rattle.answer.specs.Answer.{answered, refused, after}
use Rattle.mat3_col_major.specs.Mat3.{transposed, product}
use Rattle.mat3_inverse.specs.Inverse.{inverse}
use Rattle.cell.specs.Newton.{less_by, step_from, verdict}
use Rattle.hex_image.specs.Image.{image_at, jacobian_at}
use Rattle.hex_locate.specs.Locate.{step, start, inside, located}
use Rattle.answer.proofs.Answers.{Answered, then_answered, answered_same, never}

less_fits : (q d : List Float) (i : ℕ) → i < 3 → T (fits binary64 (less_by q d ! i))
less_fits q d i below =
    subst (λ (x : Float). T (fits binary64 x)) (sym (tabulate_at 3 (λ (i : ℕ). q ! i ⊖ d ! i) nan i below)) (sub-fits binary64 (q ! i) (d ! i))

-- what a step gives has been rounded
step_fits : (p q r : List Float) → step p q ≡ answered r → (i : ℕ) → i < 3 → T (fits binary64 (r ! i))
unfolding step step_from
step_fits p q r e i below =
    let image = image_at p q in
    let found = then_answered (inverse (transposed (jacobian_at p q))) (λ (m : List Float). answered (less_by q (product m image))) r e in
    let same : less_by q (product found.value image) ≡ r = answered_same found.next in
    subst (λ (l : List Float). T (fits binary64 (l ! i))) same (less_fits q (product found.value image) i below)

inside_then : (b : Bool) (q r : List Float) → cond b (answered q) (refused 2) ≡ answered r → T b × (q ≡ r)
inside_then true q r e = (tt, answered_same e)
inside_then false q r e = absurd (never 2 r e)

module _ (p q : List Float) (found : located p ≡ answered q) where
  last : Answered (after (step p) start 20) (verdict inside) q
  unfolding located
  last = then_answered (after (step p) start 20) (verdict inside) q found

  same : T (inside last.value) × (last.value ≡ q)
  same = inside_then (inside last.value) last.value q last.next

  pub located_inside : T (inside q)
  located_inside = subst (λ (l : List Float). T (inside l)) same.1 same.0

  pub located_fits : (i : ℕ) → i < 3 → T (fits binary64 (q ! i))
  unfolding after
  located_fits i below =
      let stepped = then_answered (after (step p) start 19) (step p) last.value last.is in
      subst (λ (l : List Float). T (fits binary64 (l ! i))) same.1 (step_fits p stepped.value last.value stepped.next i below)
