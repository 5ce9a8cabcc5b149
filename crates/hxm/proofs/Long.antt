-- A file that is longer than any good one is refused by its head alone, so that its first 28,686 bytes are enough to tell. Assumes nothing.
use Prim.Native.Nat.{ℕ, zero, suc, ◌+◌, ◌-◌, ◌≤◌, ◌<◌}
use native.Mathlib.Omega.{arith}
use mathlib.Core.Path.{◌≡◌, refl, sym, ◌∙◌, ap}
use mathlib.Core.Bool.{Bool, true, false, not, ◌||◌, cond}
use mathlib.Core.List.{List, [], ◌∷◌}
use lib.Dec.{eqb, ltb}
use lib.ListN.{length, take, drop}
use lib.Seq.{take_all, take-take, length-take-le, get_or-take, take-nil}
use borrow.Author.Tests.{le-ltb, ltb-true, ltb-false, ne_eqb}
use Rattle.numbers.specs.Little.{number_at}
use Rattle.answer.specs.Answer.{Answer, answered, refused}
use Rattle.hxm.specs.Format.{most_nodes, most_cells, Mesh, version, node_count, cell_count, file_length, marked, fault_of, mesh_at, mesh_of}
use Rattle.hxm.specs.Format.{longest_file, EnoughToTell}
use Rattle.hxm.proofs.Ladder.{neither}

drop_take : (m n : ℕ) (l : List ℕ) → drop m (take n l) ≡ take (n - m) (drop m l)
drop_take zero n l = let whole : n - 0 ≡ n = omega arith in rw whole
drop_take (suc m) zero l = let none : 0 - suc m ≡ 0 = omega arith in rw none
drop_take (suc m) (suc n) [] = sym (take-nil (suc n - suc m))
drop_take (suc m) (suc n) (x ∷ l) = let less : suc n - suc m ≡ n - m = omega arith in rw less (drop_take m n l)

-- a number of the head is the same in a part that holds it
number_of_part : (s : List ℕ) (room w at : ℕ) → at + w ≤ room → number_at (take room s) w at ≡ number_at s w at
unfolding number_at
number_of_part s room w at fits = rw (drop_take at room s, take-take w (room - at) (drop at s) (omega arith))

marked_of_part : (s : List ℕ) (room : ℕ) → 3 ≤ room → marked (take room s) ≡ marked s
marked_of_part s room fits = rw (get_or-take room s 0 0 (omega arith), get_or-take room s 1 0 (omega arith), get_or-take room s 2 0 (omega arith))

-- what the head alone says of a file that is too long
abbrev by_head : Bool → ℕ → ℕ → ℕ → Answer Mesh
by_head mark v n c =
    cond (not mark) (refused 11) (cond (not (eqb v 1)) (refused 12) (cond (ltb most_nodes n || ltb most_cells c) (refused 7) (refused 13)))

-- within the limits, the length is wrong
module _ (s : List ℕ) (long : longest_file < length s) where
  abbrev body : Answer Mesh
  body = cond (not (eqb (length s) (file_length s))) (refused 13) (cond (not (eqb (fault_of s) 0)) (refused (fault_of s)) (answered (mesh_at s)))

  abbrev many : Bool
  many = ltb most_nodes (node_count s) || ltb most_cells (cell_count s)

  wrong_length : many ≡ false → body ≡ refused 13
  wrong_length few =
      let nodes : node_count s ≤ most_nodes = ltb-false most_nodes (node_count s) (neither (ltb most_nodes (node_count s)) (ltb most_cells (cell_count s)) few).0 in
      let cells : cell_count s ≤ most_cells = ltb-false most_cells (cell_count s) (neither (ltb most_nodes (node_count s)) (ltb most_cells (cell_count s)) few).1 in
      rw (ne_eqb (length s) (file_length s) (λ e. omega (arith, e)))

  at_most_13 : (test : Bool) → many ≡ test → cond test (refused 7) body ≡ cond test (refused 7) (refused 13)
  at_most_13 true e = refl
  at_most_13 false e = wrong_length e

  long_file : mesh_of s ≡ by_head (marked s) (version s) (node_count s) (cell_count s)
  unfolding mesh_of
  long_file =
      rw (le-ltb (length s) 13 (omega arith))
      (ap (λ (a : Answer Mesh). cond (not (marked s)) (refused 11) (cond (not (eqb (version s) 1)) (refused 12) a)) (at_most_13 many refl))

pub enough_to_tell : EnoughToTell
enough_to_tell s = by (ltb 28686 (length s)) refl
  where
    by : (test : Bool) → ltb 28686 (length s) ≡ test → mesh_of (take 28686 s) ≡ mesh_of s
    by false e = ap mesh_of (take_all 28686 s (ltb-false 28686 (length s) e))
    by true e =
        let longer : 28686 < length s = ltb-true 28686 (length s) e in
        let part : length (take 28686 s) ≡ 28686 = length-take-le 28686 s (omega arith) in
        long_file (take 28686 s) (omega arith)
        ∙ rw (
          marked_of_part s 28686 (omega arith),
          number_of_part s 28686 2 3 (omega arith),
          number_of_part s 28686 4 5 (omega arith),
          number_of_part s 28686 4 9 (omega arith),
        ) (sym (long_file s (omega arith)))
