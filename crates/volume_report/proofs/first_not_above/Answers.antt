-- `volume_report::first_not_above` meets its contract: the library finds the first place at which the test passes. Assumes nothing.
use Prim.Native.Nat.{ℕ, suc, ◌+◌, ◌≤◌}
use native.Mathlib.Omega.{arith}
use mathlib.Core.Path.{◌≡◌, refl, ◌∙◌}
use mathlib.Core.Bool.{Bool, true, false, not, cond}
use mathlib.Core.List.{List, [], ◌∷◌}
use lib.Dec.{ltb}
use lib.ListN.{length, get_or}
use lib.IntN.{ℤ, pos}
use lib.Signed.{le_z}
use Rattle.std.proofs.Common.{rules, tests}
use Rattle.std.specs.Prelude.{Option, Some, None, unwrap_or}
use Rattle.std.specs.List.{position_or_len}
use Rattle.std.proofs.lemmas.Bool.Decides.{nat_tests}
use Rattle.numbers.proofs.Least.{least_least}
use Rattle.std.proofs.lemmas.Iterator.{YieldsList-from_slice}
use Rattle.std.proofs.lemmas.Iterator.Search.{position_from_yields_List}
use Rattle.volume_report.specs.Report.{first_not_above}
use Rattle.volume_report.proofs.first_not_above.Goals as goal

abbrev test : ℤ → Bool
test v = le_z v (pos 0)

first_is : (volumes : List ℤ) → position_or_len test volumes ≡ first_not_above volumes
first_is [] = refl
first_is (v ∷ vs) = by (test v) (position_or_len test vs) (first_not_above vs) (first_is vs)
  where
    by : (b : Bool) (n m : ℕ) → n ≡ m → cond (not b) (1 + n) 0 ≡ cond b 0 (suc m)
    by true n m e = refl
    by false n m e = omega arith

-- where there is one it is found, and else how many there are stands for it
chosen : (volumes : List ℤ) (found : Option ℕ) → found ≡ cond (ltb (position_or_len test volumes) (length volumes)) (Some (position_or_len test volumes)) None
    → unwrap_or found (length volumes) ≡ first_not_above volumes
chosen volumes found e =
    rw (e, first_is volumes) (by (first_not_above volumes) (length volumes) (least_least (length volumes) (λ (k : ℕ). test (get_or volumes k (pos 0)))).within)
  where
    by : (k n : ℕ) → k ≤ n → unwrap_or (cond (ltb k n) (Some k) None) n ≡ k
    by k n h = grind (arith, nat_tests)

pub returns : goal.returns
returns c =
    c.unwrap_or.ensures
    ∙ chosen c.args.volumes.now _
    (position_from_yields_List test _ _ c.position.result c.position.ensures.ran (YieldsList-from_slice c.args.volumes.now cc) (λ x b q k. search (rules, tests)))
