-- Sums of whole numbers over an index. Definitions only.
use Rattle.std.specs.Prelude.{ℕ, ℤ, pos, ◌+ℤ◌}
use Rattle.numbers.specs.Rule.{fold_to}

-- f 0 + f 1 + .. + f (n - 1); of none it is 0
abbrev pub sum_to : ℕ → (ℕ → ℤ) → ℤ
sum_to n f = fold_to ◌+ℤ◌ (pos 0) n f
