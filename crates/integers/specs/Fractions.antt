-- Fractions of an arithmetic's numbers, not reduced, as an arithmetic with a division. Definitions only.
use Rattle.std.specs.Prelude.{ℕ, List, get_or}
use Rattle.numbers.specs.Arithmetic.{Arithmetic}

pub record Fraction (A : Type 0) : Type 0 where
  pub top : A
  pub bottom : A

module _ {A : Type 0} (a : Arithmetic A) where
  open a use {zero, one, neg, ◌⊕◌, ◌⊖◌, ◌⊗◌}

  infixl 75 ◌⊕◌
  infixl 75 ◌⊖◌
  infixl 80 ◌⊗◌
  -- a number, over one
  abbrev pub whole : A → Fraction A
  whole x = record { top = x; bottom = one }

  abbrev pub fractions : Arithmetic (Fraction A)
  fractions =
      record {
        zero = whole zero;
        one = whole one;
        neg = λ (x : Fraction A). record { top = neg x.top; bottom = x.bottom };
        ◌⊕◌ = λ (x y : Fraction A). record { top = x.top ⊗ y.bottom ⊕ y.top ⊗ x.bottom; bottom = x.bottom ⊗ y.bottom };
        ◌⊖◌ = λ (x y : Fraction A). record { top = x.top ⊗ y.bottom ⊖ y.top ⊗ x.bottom; bottom = x.bottom ⊗ y.bottom };
        ◌⊗◌ = λ (x y : Fraction A). record { top = x.top ⊗ y.top; bottom = x.bottom ⊗ y.bottom };
        ◌!◌ = λ (l : List (Fraction A)) (k : ℕ). get_or l k (whole zero);
      }

  abbrev pub quotient : Fraction A → Fraction A → Fraction A
  quotient x y = record { top = x.top ⊗ y.bottom; bottom = x.bottom ⊗ y.top }
