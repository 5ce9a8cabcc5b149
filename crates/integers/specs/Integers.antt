-- Whole numbers as an arithmetic. Definitions only.
use Rattle.std.specs.Prelude.{ℕ, List, ℤ, pos, neg_ℤ, ◌+ℤ◌, ◌-ℤ◌, ◌*ℤ◌, get_or}
use Rattle.numbers.specs.Arithmetic.{Arithmetic}

-- behind a list's end stands zero
abbrev pub integers : Arithmetic ℤ
integers =
    record {
      zero = pos 0;
      one = pos 1;
      neg = neg_ℤ;
      ◌⊕◌ = ◌+ℤ◌;
      ◌⊖◌ = ◌-ℤ◌;
      ◌⊗◌ = ◌*ℤ◌;
      ◌!◌ = λ (l : List ℤ) (k : ℕ). get_or l k (pos 0);
    }
