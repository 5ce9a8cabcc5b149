-- The determinant of whole numbers goes by its columns as it should: the terms of the three equations cancel. Assumes nothing.
use Prim.Native.Nat.{ℕ, ◌+◌, ◌%◌}
use mathlib.Core.Path.{◌≡◌, refl}
use mathlib.Core.List.{List}
use lib.IntN.{ℤ, neg_ℤ}
use Rattle.numbers.specs.Rule.{tabulate}
use Rattle.numbers.proofs.Tabulate.{tabulate_same}
use Rattle.integers.specs.Integers.{integers}
use Rattle.integers.proofs.Expression.{Expression, var, minus, expressions}
use Rattle.integers.proofs.Solve.{solve_each}
use Rattle.mat3_col_major.specs.Mat3.{det_in, exchanged, SignedByColumns}

-- the matrix of the variables 0 to 8
abbrev M : List Expression
M = tabulate 9 var

turned_each : (m : List ℤ)
    → tabulate 3 (λ (c : ℕ). det_in integers (exchanged integers c ((c + 1) % 3) m)) ≡ tabulate 3 (λ (c : ℕ). neg_ℤ (det_in integers m))
turned_each m =
    solve_each m
    (tabulate 3 (λ (c : ℕ). det_in expressions (exchanged expressions c ((c + 1) % 3) M)))
    (tabulate 3 (λ (c : ℕ). minus (det_in expressions M)))
    tt

pub signed_by_columns : SignedByColumns
signed_by_columns =
    record {
      turned = λ (m : List ℤ).
          tabulate_same 3 (λ (c : ℕ). det_in integers (exchanged integers c ((c + 1) % 3) m)) (λ (c : ℕ). neg_ℤ (det_in integers m)) (turned_each m);
      unit = refl;
    }
