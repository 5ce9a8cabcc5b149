-- A table of edges is right where one computed test over its rows and the pairs of corners passes. Assumes nothing.
use Prim.Native.Nat.{ℕ}
use mathlib.Core.Bool.{Bool, cond, ◌&&◌}
use mathlib.Core.List.{List}
use lib.Dec.{T, eqb, ltb, eqb→eq}
use lib.ListN.{length}
use Rattle.numbers.specs.Rule.{all, count}
use Rattle.numbers.proofs.Tests.{first, second, all_at, all_at_pair}
use Rattle.cell.specs.Edges.{end, joins, EdgeTable}

module _ (n : ℕ) (joined : ℕ → ℕ → Bool) (edges : List (List ℕ)) where
  abbrev row_test : ℕ → Bool
  row_test e = ltb (end edges e 0) n && ltb (end edges e 1) n

  abbrev pair_test : ℕ → ℕ → Bool
  pair_test a b = eqb (count (length edges) (joins edges a b)) (cond (joined a b) 1 0)

  abbrev rows_pass : Bool
  rows_pass = all (length edges) row_test

  abbrev pairs_pass : Bool
  pairs_pass = all n (λ (a : ℕ). all n (pair_test a))

  pub edge_table : T (rows_pass && pairs_pass) → EdgeTable n joined edges
  edge_table t =
      record {
        corners = all_at (length edges) row_test (first rows_pass pairs_pass t);
        once = λ a b ha hb. eqb→eq _ _ (all_at_pair n n pair_test (second rows_pass pairs_pass t) a b ha hb);
      }
