-- `descendant::sign` meets its contract: computed for each corner and axis. Assumes nothing.
use Prim.Native.Nat.{ℕ, ◌/◌, ◌^◌, ◌<◌}
use mathlib.Core.Path.{◌≡◌, refl}
use mathlib.Core.Bool.{cond}
use borrow.Author.Rules.{rules}
use borrow.Author.Tests.{eq-eqb, ne_eqb}
use lib.Bits.{bit_and, bit_xor}
use lib.Dec.{eqb}
use lib.IntN.{ℤ, pos, negsuc}
use Rattle.numbers.specs.Rule.{tabulate}
use Rattle.numbers.proofs.Tabulate.{tabulate_same}
use Rattle.descendant.specs.Place.{sign}
use Rattle.descendant.proofs.sign.Goals as goal

-- what the code tests

abbrev side : ℕ → ℕ → ℕ
side k i = bit_and (bit_xor k (bit_and (k / 2 ^ 1) 1) / 2 ^ i) 1

abbrev computed : ℕ → ℕ → ℤ
computed k i = cond (eqb (side k i) 0) (negsuc 0) (pos 1)

by_bits : (k i : ℕ) → k < 8 → i < 3 → computed k i ≡ sign k i
unfolding sign
by_bits k i h l =
    let rows = tabulate_same 8 (λ (k : ℕ). tabulate 3 (computed k)) (λ (k : ℕ). tabulate 3 (sign k)) refl in
    tabulate_same 3 (computed k) (sign k) (rows k h) i l

pub returns-then-sides-i-eq0 : goal.returns-then-sides-i-eq0
returns-then-sides-i-eq0 c =
    let args = c.args in
    rw (eq-eqb (side args.k args.i) 0 c.if-sides-i-eq0.true) at (by_bits args.k args.i (search rules) (search rules))

pub returns-else-sides-i-eq0 : goal.returns-else-sides-i-eq0
returns-else-sides-i-eq0 c =
    let args = c.args in
    rw (ne_eqb (side args.k args.i) 0 c.if-sides-i-eq0.false) at (by_bits args.k args.i (search rules) (search rules))
