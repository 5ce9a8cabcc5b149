-- The coordinates of a point that a function is handed are floats that the format holds. Assumes nothing.
use Prim.Native.Nat.{ℕ, zero, suc, ◌<◌}
use native.Mathlib.Nat.{le_of_suc-le-suc, not-suc-le-zero}
use mathlib.Core.List.{List}
use lib.Dec.{T}
use lib.Ieee.{binary64, fits}
use mir.Val.{Val}
use denote.Floats.{passes}
use denote.Laws.{Is}
use denote.Struct.Declared.{row}
use Rattle.binary64.specs.Binary64.{◌!◌}
use Rattle.cell.specs.Newton.{coords}
use Rattle.cell.specs.declared.Point.{Point}
use Rattle.cell.specs.contracts.Point.{the_type}

pub point_fits : (at : Point) (vs : List Val) → Is (row the_type) at vs → (i : ℕ) → i < 3 → T (fits binary64 (coords at ! i))
point_fits at vs known zero below = passes (fits binary64 at.x) known.1.1.0.1
point_fits at vs known (suc zero) below = passes (fits binary64 at.y) known.1.1.1.0.1
point_fits at vs known (suc (suc zero)) below = passes (fits binary64 at.z) known.1.1.1.1.0.1
point_fits at vs known (suc (suc (suc i))) below = absurd (not-suc-le-zero (le_of_suc-le-suc (le_of_suc-le-suc (le_of_suc-le-suc below))))
