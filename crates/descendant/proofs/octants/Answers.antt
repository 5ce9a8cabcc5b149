-- `descendant::octants` meets its contract: every number of the path passes, or one does not. Assumes nothing.
use Prim.Native.Nat.{ℕ, ◌≤◌, ◌<◌}
use native.Mathlib.Omega.{arith}
use mathlib.Core.Path.{◌≡◌, sym}
use mathlib.Core.Bool.{Bool, true, false}
use mathlib.Core.List.{List}
use lib.Dec.{ltb}
use lib.ListN.{length, get_or}
use borrow.Author.Rules.{rules}
use borrow.Author.Tests.{tests, lt-ltb, le-ltb}
use Rattle.std.specs.Bool.{MatchBool}
use Rattle.std.specs.List.{AllWithin, HoldsAt}
use Rattle.std.proofs.lemmas.Iterator.{cases_from_all, YieldsList-from_slice}
use Rattle.numbers.proofs.All.{all_where, all_miss}
use Rattle.descendant.specs.Place.{octants}
use Rattle.descendant.proofs.octants.Goals as goal

by_test : (path : List ℕ) (r : Bool) → MatchBool r (AllWithin (λ x. x < 8) path 0 (length path)) ((k : ℕ) × (k < length path) × HoldsAt (λ x. 8 ≤ x) path k)
    → r ≡ octants path
by_test path true h = sym (all_where (λ (i : ℕ). ltb (get_or path i 0) 8) (length path) (λ k l. lt-ltb _ _ (h k 0 (omega arith) l)))
by_test path false h = sym (all_miss (λ (i : ℕ). ltb (get_or path i 0) 8) h.0 (length path) h.1 (le-ltb _ _ (h.2 0)))

pub returns : goal.returns
returns c =
    by_test c.args.path.now c.all.result
    (cases_from_all _ _ _ (λ x. x < 8) (λ x. 8 ≤ x) c.all.ensures.ran (YieldsList-from_slice c.args.path.now cc)
    (λ x q k. search (rules, tests)) (λ x q k. search (rules, tests)))
