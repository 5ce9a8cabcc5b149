-- The tests that an accepted file has passed, and what reading it leaves. Assumes nothing.
use Prim.Native.Nat.{ℕ, ◌+◌, ◌*◌, ◌≤◌}
use native.Mathlib.Omega.{arith}
use mathlib.Core.Path.{◌≡◌, refl, sym, ◌∙◌, ap, subst}
use mathlib.Core.Bool.{Bool, true, false, not, ◌||◌, cond}
use Rattle.std.specs.Prelude.{Ok, Err}
use mathlib.Core.List.{List, ◌++◌}
use lib.Dec.{eqb, ltb}
use lib.ListN.{length, take, drop}
use lib.Seq.{take_at}
use borrow.Author.Tests.{le-ltb, eq-eqb, ltb-false, eqb-true, not-false}
use Rattle.numbers.specs.Rule.{tabulate}
use Rattle.numbers.specs.Little.{number_at, numbers_at}
use Rattle.numbers.proofs.Stored.{length_tabulate}
use Rattle.answer.specs.Answer.{Answer, answered, refused}
use Rattle.answer.proofs.Answers.{never, unless, then_refused}
use Rattle.hxm.specs.Format.{most_nodes, most_cells, most_words, most_numbers, node_words, cell_numbers, Mesh, head_length}
use Rattle.hxm.specs.Format.{version, node_count, cell_count, cells_from, file_length, marked, fault_of, mesh_at, mesh_of}
use Rattle.answer.specs.Told.{number}
use Rattle.answer.specs.declared.Refusal.{Refusal}
use Rattle.hxm.specs.Reads.{counts_in, listed, counts, mesh_into, Reads}
use Rattle.hxm.specs.declared.Counts.{Counts}

pub record Passed (s : List ℕ) : Type 0 where
  pub long : 13 ≤ length s
  pub mark : marked s ≡ true
  pub one : version s ≡ 1
  pub nodes_few : node_count s ≤ most_nodes
  pub cells_few : cell_count s ≤ most_cells
  pub whole : length s ≡ file_length s
  pub faultless : fault_of s ≡ 0

pub neither : (a b : Bool) → (a || b) ≡ false → (a ≡ false) × (b ≡ false)
neither true b e = (e, cc)
neither false b e = (refl, e)

pub accepted_passed : (s : List ℕ) (m : Mesh) → mesh_of s ≡ answered m → Passed s × (mesh_at s ≡ m)
unfolding mesh_of
accepted_passed s m e =
    let s1 = unless (ltb (length s) 13) 13 _ m e in
    let s2 = unless (not (marked s)) 11 _ m s1.1 in
    let s3 = unless (not (eqb (version s) 1)) 12 _ m s2.1 in
    let s4 = unless (ltb most_nodes (node_count s) || ltb most_cells (cell_count s)) 7 _ m s3.1 in
    let s5 = unless (not (eqb (length s) (file_length s))) 13 _ m s4.1 in
    let s6 = unless (not (eqb (fault_of s) 0)) (fault_of s) (answered (mesh_at s)) m s5.1 in
    let few = neither (ltb most_nodes (node_count s)) (ltb most_cells (cell_count s)) s4.0 in (
      record {
        long = ltb-false (length s) 13 s1.0;
        mark = not-false (marked s) s2.0;
        one = eqb-true (version s) 1 (not-false (eqb (version s) 1) s3.0);
        nodes_few = ltb-false most_nodes (node_count s) few.0;
        cells_few = ltb-false most_cells (cell_count s) few.1;
        whole = eqb-true (length s) (file_length s) (not-false (eqb (length s) (file_length s)) s5.0);
        faultless = eqb-true (fault_of s) 0 (not-false (eqb (fault_of s) 0) s6.0);
      },
      cc s6.1,
    )

-- the numbers of all cells
pub corners_long : (s : List ℕ) → length (mesh_at s).corners ≡ 8 * cell_count s
unfolding mesh_at
corners_long s = length_tabulate (8 * cell_count s) (λ (i : ℕ). number_at s 4 (cells_from s + 4 * i))

-- so that a list of an accepted mesh has its cells
pub accepted_whole : (s : List ℕ) (m : Mesh) → mesh_of s ≡ answered m → length m.corners ≡ 8 * m.cells
unfolding mesh_at
accepted_whole s m e = subst (λ (m : Mesh). length m.corners ≡ 8 * m.cells) (accepted_passed s m e).1 (corners_long s)

pub passed_accepted : (s : List ℕ) → Passed s → mesh_of s ≡ answered (mesh_at s)
unfolding mesh_of
passed_accepted s p =
    rw (
      le-ltb (length s) 13 p.long,
      p.mark,
      eq-eqb (version s) 1 p.one,
      le-ltb most_nodes (node_count s) p.nodes_few,
      le-ltb most_cells (cell_count s) p.cells_few,
      eq-eqb (length s) (file_length s) p.whole,
      eq-eqb (fault_of s) 0 p.faultless,
    )

-- the two counts
abbrev pub both : ℕ → ℕ → Counts
both n c = record { nodes = n; cells = c }

-- what the counts of an answer say of the file
pub record Counted (s : List ℕ) (n c : ℕ) : Type 0 where
  pub passed : Passed s
  pub nodes : node_count s ≡ n
  pub cells : cell_count s ≡ c

pub counted : (s : List ℕ) (k : Counts) → answered k ≡ counts_in (mesh_of s) → Counted s k.nodes k.cells
unfolding mesh_at
counted s k e = by (mesh_of s) refl e
  where
    by : (found : Answer Mesh) → mesh_of s ≡ found → answered k ≡ counts_in found → Counted s k.nodes k.cells
    by (answered m) is e =
        let file = accepted_passed s m is in
        record { passed = file.0; nodes = ap (λ (m : Mesh). m.nodes) file.1 ∙ cc; cells = ap (λ (m : Mesh). m.cells) file.1 ∙ cc }
    by (refused n) is e = absurd (never n k (sym e))

pub refusal : (found : Answer Mesh) (n : ℕ) → refused n ≡ counts_in found → found ≡ refused n
refusal found n e = then_refused found (λ (m : Mesh). both m.nodes m.cells) n e

-- what is left of the lent lists by a refusal, and by a success
pub untouched : (found : Answer Mesh) (r : Refusal) (nodes cells : List ℕ) → found ≡ refused (number r) → Reads found (Err r) nodes nodes cells cells
untouched found r nodes cells e = rw e (record { answer = refl; nodes_left = refl; cells_left = refl })

laid : (f : ℕ → ℕ) (n k : ℕ) (old : List ℕ) → k ≡ n → tabulate n f ++ drop n old ≡ tabulate k f ++ drop (length (tabulate k f)) old
laid f n k old e = rw (length_tabulate k f, e)

module _ (coords corners : ℕ) (s : List ℕ) where
  pub into_refused : (k : ℕ) → mesh_of s ≡ refused k → mesh_into coords corners s ≡ refused k
  unfolding mesh_into
  into_refused k e = rw e

  module _ (n c : ℕ) (file : Counted s n c) where
    pub by_room : mesh_into coords corners s ≡ cond (ltb coords (node_words * n) || ltb corners (cell_numbers * c)) (refused 8) (answered (mesh_at s))
    unfolding mesh_into mesh_at
    by_room = rw (passed_accepted s file.passed, file.nodes, file.cells)

    into_answered : node_words * n ≤ coords → cell_numbers * c ≤ corners → mesh_into coords corners s ≡ answered (mesh_at s)
    into_answered room space = rw (by_room, le-ltb coords (3 * n) room, le-ltb corners (8 * c) space)

    pub written : (nodes nodes' cells cells' : List ℕ) → node_words * n ≤ coords → cell_numbers * c ≤ corners
        → nodes' ≡ numbers_at s 8 13 (3 * n) ++ drop (3 * n) nodes
        → cells' ≡ numbers_at s 4 (13 + 24 * n) (8 * c) ++ drop (8 * c) cells
        → Reads (mesh_into coords corners s) (Ok (both n c)) nodes nodes' cells cells'
    unfolding mesh_at
    written nodes nodes' cells cells' room space en ec =
        let word : ℕ → ℕ = λ i. number_at s 8 (13 + 8 * i) in
        let corner : ℕ → ℕ = λ i. number_at s 4 (13 + 24 * n + 4 * i) in
        rw (into_answered room space) (record {
          answer = rw (file.nodes, file.cells);
          nodes_left = en ∙ laid word (3 * n) (3 * node_count s) nodes (ap (λ (k : ℕ). 3 * k) file.nodes);
          cells_left = rw file.nodes (ec ∙ laid corner (8 * c) (8 * cell_count s) cells (ap (λ (k : ℕ). 8 * k) file.cells));
        })

-- lists that have room for the largest mesh are never too short
pub enough_room : (coords corners : ℕ) (s : List ℕ) → most_words ≤ coords → most_numbers ≤ corners → mesh_into coords corners s ≡ mesh_of s
enough_room coords corners s room space = by (mesh_of s) refl
  where
    by : (found : Answer Mesh) → mesh_of s ≡ found → mesh_into coords corners s ≡ found
    by (refused k) is = into_refused coords corners s k is
    by (answered m) is =
        let file = accepted_passed s m is in
        let counts : Counted s (node_count s) (cell_count s) = record { passed = file.0; nodes = refl; cells = refl } in
        into_answered coords corners s _ _ counts (omega (arith, file.0.nodes_few)) (omega (arith, file.0.cells_few)) ∙ ap answered file.1

-- a mesh that is read into such lists: what its counts say of the file, and the corners at the head of the list of cells
pub record Found (s : List ℕ) (n c : ℕ) (cells : List ℕ) : Type 0 where
  pub file : Counted s n c
  pub corners : take (8 * c) cells ≡ (mesh_at s).corners
  pub long : length (take (8 * c) cells) ≡ 8 * c

pub read_found : (coords corners : ℕ) (s : List ℕ) (k : Counts) (nodes nodes' cells cells' : List ℕ) → most_words ≤ coords → most_numbers ≤ corners
    → Reads (mesh_into coords corners s) (Ok k) nodes nodes' cells cells' → Found s k.nodes k.cells cells'
unfolding mesh_at
read_found coords corners s k nodes nodes' cells cells' room space r =
    let enough = enough_room coords corners s room space in
    let n = k.nodes in
    let c = k.cells in
    let file : Counted s n c = counted s k (r.answer ∙ ap counts_in enough) in
    let corner : ℕ → ℕ = λ i. number_at s 4 (cells_from s + 4 * i) in
    let whole : length (mesh_at s).corners ≡ 8 * c = length_tabulate (8 * cell_count s) corner ∙ ap (λ (i : ℕ). 8 * i) file.cells in
    let found : mesh_into coords corners s ≡ answered (mesh_at s) = enough ∙ passed_accepted s file.passed in
    let head : take (8 * c) cells' ≡ (mesh_at s).corners = ap (take (8 * c)) (rw found at r.cells_left) ∙ take_at (mesh_at s).corners _ (8 * c) whole in
    record { file = file; corners = head; long = ap length head ∙ whole }

-- and the words at the head of the list of nodes
pub read_words : (coords corners : ℕ) (s : List ℕ) (k : Counts) (nodes nodes' cells cells' : List ℕ) → most_words ≤ coords → most_numbers ≤ corners
    → Reads (mesh_into coords corners s) (Ok k) nodes nodes' cells cells'
    → (take (3 * k.nodes) nodes' ≡ (mesh_at s).coords) × (length (take (3 * k.nodes) nodes') ≡ 3 * k.nodes)
unfolding mesh_at
read_words coords corners s k nodes nodes' cells cells' room space r =
    let enough = enough_room coords corners s room space in
    let n = k.nodes in
    let c = k.cells in
    let file : Counted s n c = counted s k (r.answer ∙ ap counts_in enough) in
    let word : ℕ → ℕ = λ i. number_at s 8 (head_length + 8 * i) in
    let whole : length (mesh_at s).coords ≡ 3 * n = length_tabulate (3 * node_count s) word ∙ ap (λ (i : ℕ). 3 * i) file.nodes in
    let found : mesh_into coords corners s ≡ answered (mesh_at s) = enough ∙ passed_accepted s file.passed in
    let head : take (3 * n) nodes' ≡ (mesh_at s).coords = ap (take (3 * n)) (rw found at r.nodes_left) ∙ take_at (mesh_at s).coords _ (3 * n) whole in
    (head, ap length head ∙ whole)

-- as C has them, in a list
pub counts_listed : (found : Answer Mesh) → listed (counts_in found) ≡ counts found
counts_listed (answered m) = refl
counts_listed (refused n) = refl
