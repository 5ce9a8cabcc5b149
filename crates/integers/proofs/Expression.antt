-- Expressions of whole numbers and variables, as an arithmetic: a formula that is written over any arithmetic gives its own expression, whose value at
-- the variables' values is the formula in whole numbers, by computation. Assumes nothing.
use Prim.Native.Nat.{ℕ}
use mathlib.Core.List.{List}
use lib.IntN.{ℤ, pos, neg_ℤ, ◌+ℤ◌, ◌*ℤ◌}
use lib.ListN.{get_or}
use Rattle.numbers.specs.Arithmetic.{Arithmetic}

infixl 6 ◌⊞◌
infixl 7 ◌⊠◌
pub data Expression : Type 0 where
  number : ℤ → Expression
  var : ℕ → Expression
  ◌⊞◌ : Expression → Expression → Expression
  ◌⊠◌ : Expression → Expression → Expression
  minus : Expression → Expression

-- its value, where variable i is number i of a list
abbrev pub value : List ℤ → Expression → ℤ
value ρ (number z) = z
value ρ (var i) = get_or ρ i (pos 0)
value ρ (a ⊞ b) = value ρ a +ℤ value ρ b
value ρ (a ⊠ b) = value ρ a *ℤ value ρ b
value ρ (minus a) = neg_ℤ (value ρ a)

abbrev pub expressions : Arithmetic Expression
expressions =
    record {
      zero = number (pos 0);
      one = number (pos 1);
      neg = minus;
      ◌⊕◌ = ◌⊞◌;
      ◌⊖◌ = λ (a b : Expression). a ⊞ minus b;
      ◌⊗◌ = ◌⊠◌;
      ◌!◌ = λ (l : List Expression) (k : ℕ). get_or l k (number (pos 0));
    }
