-- That each shape value is one at its own corner is one computation over all corners. Assumes nothing.
use Prim.Native.Nat.{ℕ}
use mathlib.Core.Path.{◌≡◌}
use mathlib.Core.List.{List, []}
use lib.Ieee.{Float}
use lib.ListN.{get_or}
use Rattle.numbers.specs.Rule.{tabulate}
use Rattle.numbers.proofs.Tabulate.{tabulate_same}
use Rattle.cell.specs.Shape.{one_at, OneAtItsCorner}

pub one_at_its_corner : (n : ℕ) (shape : List Float → List Float) (places : List (List Float))
    → tabulate n (λ (k : ℕ). shape (get_or places k [])) ≡ tabulate n (one_at n) → OneAtItsCorner n shape places
one_at_its_corner n shape places e = tabulate_same n (λ (k : ℕ). shape (get_or places k [])) (one_at n) e
