-- Newton's search for the place whose image is the origin, for any cell. Definitions only.
use Rattle.std.specs.Prelude.{ℕ, Bool, cond, List, [], ◌∷◌, Float}
use Rattle.numbers.specs.Rule.{tabulate}
use Rattle.binary64.specs.Binary64.{◌⊖◌, ◌!◌}
use Rattle.answer.specs.Answer.{Answer, answered, refused, and_then, after, LosesNothing}
use Rattle.mat3_col_major.specs.Mat3.{transposed, product}
use Rattle.mat3_inverse.specs.Inverse.{inverse}
use Rattle.cell.specs.declared.Point.{Point}
use Rattle.cell.specs.declared.Located.{Located}
use Rattle.cell.specs.declared.Located.TheVariants.{Inside, Flat, Outside}

abbrev pub coords : Point → List Float
coords q = q.x ∷ q.y ∷ q.z ∷ []

-- q less d, on each axis
abbrev pub less_by : List Float → List Float → List Float
less_by q d = tabulate 3 (λ (i : ℕ). q ! i ⊖ d ! i)

-- one step from the place q: the inverse of the Jacobian times the image is taken off
abbrev pub step_by : List Float → List Float → Answer (List Float) → Answer (List Float)
step_by q image inverted = and_then inverted (λ (m : List Float). answered (less_by q (product m image)))

-- the Jacobian is handed over to the inverse column by column
unfoldable pub step_from : List Float → List Float → List Float → Answer (List Float)
step_from q image jacobian = step_by q image (inverse (transposed jacobian))

-- the place q, or 2 where the inside test fails
abbrev pub verdict : (List Float → Bool) → List Float → Answer (List Float)
verdict inside q = cond (inside q) (answered q) (refused 2)

-- so many steps unless one is refused, and then the inside test
abbrev pub newton : ℕ → (List Float → Answer (List Float)) → List Float → (List Float → Bool) → Answer (List Float)
newton steps step start inside = and_then (after step start steps) (verdict inside)

-- "takes exactly 20 steps unless a determinant is zero", which is refusal 1, and then the inside test
abbrev pub locate : (List Float → Answer (List Float)) → List Float → (List Float → Bool) → Answer (List Float)
locate step start inside = newton 20 step start inside

-- the number and the values of each case: "inside with three coordinates, flat, or outside"
abbrev pub told : Located → Answer (List Float)
told (Inside q) = answered q
told Flat = refused 1
told Outside = refused 2

-- So the contracts leave one possible answer.
abbrev pub ToldLosesNothing : Type 0
ToldLosesNothing = LosesNothing told
