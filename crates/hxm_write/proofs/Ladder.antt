-- The tests that two lists have passed whose file is written, and what that leaves. Assumes nothing.
use Prim.Native.Nat.{ℕ, ◌+◌, ◌*◌, ◌%◌, ◌≤◌}
use native.Mathlib.Omega.{arith}
use mathlib.Core.Path.{◌≡◌, refl, sym, ◌∙◌, ap}
use mathlib.Core.Bool.{not, cond}
use mathlib.Core.List.{List}
use lib.Dec.{eqb, ltb}
use lib.ListN.{length}
use borrow.Author.Tests.{le-ltb, eq-eqb, ltb-false, eqb-true, not-false}
use Rattle.numbers.specs.Little.{bytes}
use Rattle.numbers.proofs.Little.{length_all_bytes}
use Rattle.answer.specs.Answer.{Answer, answered, refused, left}
use Rattle.answer.proofs.Answers.{unless, then_unless, then_answered, answered_same}
use Rattle.buffer.specs.Put.{Puts, Wrote}
use Rattle.buffer.proofs.Writing.{wrote_then, wrote_is, puts_wrote}
use Rattle.hxm.specs.Format.{most_words, most_numbers, node_words, cell_numbers, head_length, head_of, nodes_part, cells_part, file_of, fault_in}
use Rattle.hxm.proofs.Format.{length_file}
use Rattle.hxm_write.specs.Writes.{mesh_of_lists, is_whole, file_for, file_into, length_of}

pub record Written (room : ℕ) (nodes cells s : List ℕ) : Type 0 where
  pub nodes_few : length nodes ≤ most_words
  pub cells_few : length cells ≤ most_numbers
  pub nodes_whole : length nodes % node_words ≡ 0
  pub cells_whole : length cells % cell_numbers ≡ 0
  pub faultless : fault_in (mesh_of_lists nodes cells) ≡ 0
  pub file : file_of (mesh_of_lists nodes cells) ≡ s
  pub fits : length s ≤ room

module _ (room : ℕ) (nodes cells s : List ℕ) where
  abbrev fault : ℕ
  fault = fault_in (mesh_of_lists nodes cells)

  pub written : file_into room nodes cells ≡ answered s → Written room nodes cells s
  unfolding file_into file_for
  written e =
      let into = then_answered (file_for nodes cells) _ s e in
      let last = unless (ltb room (length into.value)) 8 (answered into.value) s into.next in
      let same : into.value ≡ s = answered_same last.1 in
      let found : file_for nodes cells ≡ answered s = into.is ∙ ap answered same in
      let s1 = unless (ltb most_words (length nodes)) 7 _ s found in
      let s2 = unless (ltb most_numbers (length cells)) 7 _ s s1.1 in
      let s3 = unless (not (is_whole node_words nodes)) 8 _ s s2.1 in
      let s4 = unless (not (is_whole cell_numbers cells)) 8 _ s s3.1 in
      let s5 = unless (not (eqb fault 0)) fault (answered (file_of (mesh_of_lists nodes cells))) s s4.1 in
      record {
        nodes_few = ltb-false most_words (length nodes) s1.0;
        cells_few = ltb-false most_numbers (length cells) s2.0;
        nodes_whole = eqb-true (length nodes % node_words) 0 (not-false (is_whole node_words nodes) s3.0);
        cells_whole = eqb-true (length cells % cell_numbers) 0 (not-false (is_whole cell_numbers cells) s4.0);
        faultless = eqb-true fault 0 (not-false (eqb fault 0) s5.0);
        file = answered_same s5.1;
        fits = rw same at (ltb-false room (length into.value) last.0);
      }

  pub answers : Written room nodes cells s → file_into room nodes cells ≡ answered s
  unfolding file_into file_for
  answers w =
      let fits : length (file_of (mesh_of_lists nodes cells)) ≤ room = omega (arith, ap length w.file, w.fits) in
      rw (
        le-ltb most_words (length nodes) w.nodes_few,
        le-ltb most_numbers (length cells) w.cells_few,
        eq-eqb (length nodes % node_words) 0 w.nodes_whole,
        eq-eqb (length cells % cell_numbers) 0 w.cells_whole,
        eq-eqb fault 0 w.faultless,
        le-ltb room (length (file_of (mesh_of_lists nodes cells))) fits,
      ) (ap answered w.file)

-- what is known of the lists where a length is answered, and what the buffer then holds
pub counted : (room : ℕ) (nodes cells : List ℕ) (n : ℕ) → answered n ≡ length_of (file_into room nodes cells)
    → Written room nodes cells (file_of (mesh_of_lists nodes cells))
counted room nodes cells n e =
    let found = then_answered (file_into room nodes cells) _ n (sym e) in
    let w = written room nodes cells found.value found.is in
    record {
      nodes_few = w.nodes_few;
      cells_few = w.cells_few;
      nodes_whole = w.nodes_whole;
      cells_whole = w.cells_whole;
      faultless = w.faultless;
      file = refl;
      fits = omega (arith, ap length w.file, w.fits);
    }

pub left_by : {nodes cells out a b out' : List ℕ} {i j k : ℕ} → Written (length out) nodes cells (file_of (mesh_of_lists nodes cells))
    → let m = mesh_of_lists nodes cells in Wrote out a 0 i (head_of 1 m.nodes m.cells) → Puts a b i j (nodes_part nodes) → Puts b out' j k (cells_part cells)
    → out' ≡ left (file_into (length out) nodes cells) out
unfolding bytes
left_by {nodes} {cells} {out} w head words numbers =
    let s = file_of (mesh_of_lists nodes cells) in
    let long : head_length + 8 * length nodes + 4 * length cells ≤ length out = omega (arith, length_file (mesh_of_lists nodes cells), w.fits) in
    let size = length_all_bytes 8 nodes in
    let first = puts_wrote (rw size (omega (arith, head.ends, head.keeps))) words in
    let more = puts_wrote (rw (length_all_bytes 4 cells) (omega (arith, head.ends, head.keeps, first.ends, first.keeps, size))) numbers in
    let start : 0 + length s ≡ length s = omega arith in
    rw (answers (length out) nodes cells s w) (rw start at (wrote_is (wrote_then head (wrote_then first more))))

-- ---- the ladder over the length alone, from its last rungs up
abbrev pub long : List ℕ → List ℕ → ℕ
long nodes cells = head_length + 8 * length nodes + 4 * length cells

module _ (room : ℕ) (nodes cells : List ℕ) where
  abbrev pub by_room : Answer ℕ
  by_room = cond (ltb room (long nodes cells)) (refused 8) (answered (long nodes cells))

  abbrev pub by_fault : Answer ℕ
  by_fault = let fault = fault_in (mesh_of_lists nodes cells) in cond (not (eqb fault 0)) (refused fault) by_room

  abbrev pub by_whole : Answer ℕ
  by_whole = cond (not (is_whole node_words nodes)) (refused 8) (cond (not (is_whole cell_numbers cells)) (refused 8) by_fault)

  abbrev pub rungs : Answer ℕ
  rungs = cond (ltb most_words (length nodes)) (refused 7) (cond (ltb most_numbers (length cells)) (refused 7) by_whole)

  pub climbed : length_of (file_into room nodes cells) ≡ rungs
  unfolding file_into file_for
  climbed = simp (then_unless, length_file (mesh_of_lists nodes cells))
