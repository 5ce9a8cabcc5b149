-- Eight unknown corners on three axes, as variables of the solver; and what computes of the definition: the polynomials take the corners' values, and no power
-- passes 2. Assumes nothing.
use Prim.Native.Nat.{ℕ, ◌+◌}
use mathlib.Core.Path.{◌≡◌}
use mathlib.Core.List.{List, ◌++◌}
use lib.IntN.{ℤ, pos}
use Rattle.numbers.specs.Rule.{tabulate}
use Rattle.numbers.proofs.Tabulate.{tabulate_same}
use Rattle.integers.specs.Integers.{integers}
use Rattle.integers.proofs.Expression.{Expression, number, var, expressions}
use Rattle.integers.proofs.Solve.{solve_each}
use Rattle.exact_volume.specs.Volume.{axis}
use Rattle.exact_volume.specs.Laws.{value_at, unit_corner, ThroughTheCorners, DegreeTwo}

-- a numeral
abbrev pub numeral : ℕ → Expression
numeral n = number (pos n)

-- the corners' coordinates are the variables 0 to 23, axis by axis; others stand behind them
abbrev pub X : ℕ → Expression
X k = var k

abbrev pub Y : ℕ → Expression
Y k = var (8 + k)

abbrev pub Z : ℕ → Expression
Z k = var (16 + k)

abbrev pub corners : (x y z : ℕ → ℤ) → List ℤ → List ℤ
corners x y z others = tabulate 8 x ++ (tabulate 8 y ++ (tabulate 8 z ++ others))

through_each : (x : ℕ → ℤ) → tabulate 8 (λ (k : ℕ). value_at integers (unit_corner integers k) (axis integers pos x)) ≡ tabulate 8 x
through_each x =
    solve_each (tabulate 8 x)
    (tabulate 8 (λ (k : ℕ). value_at expressions (unit_corner expressions k) (axis expressions numeral X)))
    (tabulate 8 X)
    tt

pub through_the_corners : ThroughTheCorners
through_the_corners x = tabulate_same 8 (λ (k : ℕ). value_at integers (unit_corner integers k) (axis integers pos x)) x (through_each x)

pub degree_two : DegreeTwo
degree_two x y z = tt
