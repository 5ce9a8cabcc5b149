-- Numbers by their binary digits. Definitions only.
use Rattle.std.specs.Prelude.{ℕ, zero, suc, ◌+◌, ◌*◌, ◌/◌, ◌%◌, ◌^◌, Bool, cond, eqb}

-- whether bit k of x is set
abbrev pub bit : ℕ → ℕ → Bool
bit x k = eqb (x / 2 ^ k % 2) 1

-- the number whose bits 0 .. n - 1 are those that pass, and that has no other
abbrev pub with_bits : ℕ → (ℕ → Bool) → ℕ
with_bits zero p = 0
with_bits (suc n) p = cond (p n) 1 0 * 2 ^ n + with_bits n p
