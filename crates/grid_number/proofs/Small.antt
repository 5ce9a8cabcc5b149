-- A grid number is small, and 15 is the only refusal. Assumes nothing.
use Prim.Native.Nat.{ℕ, ◌/◌, ◌%◌, ◌≤◌}
use mathlib.Core.Path.{◌≡◌, refl, subst}
use mathlib.Core.Bool.{Bool, true, false, ◌&&◌, cond}
use mathlib.Core.List.{List}
use lib.Dec.{T, eqb, leb, leb→le}
use lib.IntN.{ℤ}
use lib.Ieee.{Float}
use lib.Ieee.Scale.{finite}
use Rattle.numbers.proofs.Tests.{second, holds}
use Rattle.answer.specs.Answer.{answered, refused, is_one_of, RefusesBy}
use Rattle.answer.proofs.Answers.{answered_same, never, refuses_else}
use Rattle.integers.specs.Sizes.{Within}
use Rattle.integers.proofs.Sizes.{within_self, within_neg, within_more}
use Rattle.binary64.specs.Exact.{size, is_negative, one}
use Rattle.grid_number.specs.Grid.{is_grid, with_sign, grid_number}

signed_small : (s : Bool) (n : ℕ) → n ≤ 1024 → Within 1024 (with_sign s n)
signed_small true n h = within_neg (within_more h (within_self n))
signed_small false n h = within_more h (within_self n)

pub grid_small : (x : Float) (z : ℤ) → grid_number x ≡ answered z → Within 1024 z
unfolding grid_number
grid_small x z e = by (is_grid x) refl e
  where
    by : (b : Bool) → is_grid x ≡ b → cond b (answered (with_sign (is_negative x) (size x / one))) (refused 15) ≡ answered z → Within 1024 z
    by true good e =
        let whole = second (finite x) (eqb (size x % one) 0 && leb (size x / one) 1024) (holds (is_grid x) good) in
        let few = leb→le (size x / one) 1024 (second (eqb (size x % one) 0) (leb (size x / one) 1024) whole) in
        subst (Within 1024) (answered_same e) (signed_small (is_negative x) (size x / one) few)
    by false good e = absurd (never 15 z e)

pub grid_refuses : (ns : List ℕ) (x : Float) → T (is_one_of ns 15) → RefusesBy ns (grid_number x)
unfolding grid_number
grid_refuses ns x listed = refuses_else ns (is_grid x) (with_sign (is_negative x) (size x / one)) 15 listed
