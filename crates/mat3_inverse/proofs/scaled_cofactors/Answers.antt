-- `mat3_inverse::scaled_cofactors` meets its contract: its nine differences are those of the definition, whose factors commute. Assumes nothing.
use Prim.Native.Nat.{ℕ}
use mathlib.Core.Path.{◌≡◌}
use mathlib.Core.List.{List, [], ◌∷◌}
use lib.Ieee.{Float, binary64}
use Rattle.binary64.specs.Binary64.{◌⊖◌, ◌⊗◌, ◌!◌}
use Rattle.binary64.proofs.Commutes.{mul_commutes}
use Rattle.mat3_inverse.specs.Inverse.{scaled_cofactors}
use Rattle.mat3_inverse.proofs.scaled_cofactors.Goals as goal

module _ (s : Float) (b : List Float) where
  -- a line of the source, and two factors exchanged
  abbrev line : ℕ → ℕ → ℕ → ℕ → Float
  line i j k l = s ⊗ (b ! i ⊗ b ! j ⊖ b ! k ⊗ b ! l)

  swap : (i j : ℕ) → b ! i ⊗ b ! j ≡ b ! j ⊗ b ! i
  swap i j = mul_commutes binary64 (b ! i) (b ! j)

  lines : line 4 8 5 7 ∷ line 2 7 1 8 ∷ line 1 5 2 4 ∷ line 5 6 3 8 ∷ line 0 8 2 6 ∷ line 2 3 0 5 ∷ line 3 7 4 6 ∷ line 1 6 0 7 ∷ line 0 4 1 3 ∷ []
      ≡ scaled_cofactors s b
  lines = rw (swap 5 7, swap 2 7, swap 2 4, swap 3 8, swap 0 8, swap 0 5, swap 4 6, swap 1 6, swap 1 3)

pub returns : goal.returns
returns c =
    simp (
      c.minor-9.ensures,
      c.minor-8.ensures,
      c.minor-7.ensures,
      c.minor-6.ensures,
      c.minor-5.ensures,
      c.minor-4.ensures,
      c.minor-3.ensures,
      c.minor-2.ensures,
      c.minor.ensures,
    )
    (lines _ c.args.b)
