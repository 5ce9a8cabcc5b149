-- The accepted files are those of the good meshes: a file in parts, each of which is read and written back. Assumes nothing.
use Prim.Native.Nat.{ℕ, ◌+◌, ◌*◌, ◌/◌, ◌%◌, ◌^◌, ◌<◌, ◌≤◌}
use native.Mathlib.Nat.{not-suc-le-zero}
use native.Mathlib.Omega.{arith}
use mathlib.Core.Path.{◌≡◌, refl, sym, ◌∙◌, ap, subst}
use mathlib.Core.Bool.{true, ◌&&◌}
use mathlib.Core.List.{List, [], ◌∷◌, ◌++◌, append-nil}
use lib.Dec.{eqb}
use lib.ListN.{length, get_or, take, drop, length-append, length-drop, take-append-drop}
use lib.Seq.{take_all, drop-drop}
use borrow.Author.Tests.{eqb-true}
use Rattle.numbers.specs.Little.{number_at, numbers_at, bytes, all_bytes, Below}
use Rattle.numbers.proofs.All.{left_true, right_true}
use Rattle.numbers.proofs.Stored.{length_tabulate}
use Rattle.numbers.proofs.Little.{little_endian, number_bytes, number_behind, numbers_below, length_all_bytes}
use Rattle.answer.specs.Answer.{answered}
use Rattle.faults.specs.Faults.{node, Sound}
use Rattle.faults.proofs.Faults.{faultless_is_sound}
use Rattle.hxm.specs.Format.{node_bytes, cell_bytes, Mesh, mark, head_of, nodes_part, cells_part, file_of, head_length, version, node_count, cell_count}
use Rattle.hxm.specs.Format.{cells_from, marked, fault_of, mesh_at, Good, FilesOfMeshes}
use Rattle.hxm.proofs.Ladder.{Passed, accepted_passed, corners_long, passed_accepted}

-- from bytes to a mesh

mark_is : (s : List ℕ) → 13 ≤ length s → marked s ≡ true → take 3 s ≡ mark
mark_is [] long e = absurd (not-suc-le-zero long)
mark_is (a ∷ []) long e = absurd (omega arith)
mark_is (a ∷ b ∷ []) long e = absurd (omega arith)
mark_is (a ∷ b ∷ c ∷ s) long e =
    let first = eqb a 72 && true in
    let second = eqb b 88 && first in
    let x = right_true (eqb c 77) second e in
    let h = right_true (eqb b 88) first x in
    rw (eqb-true a 72 (left_true (eqb a 72) true h), eqb-true b 88 (left_true (eqb b 88) first x), eqb-true c 77 (left_true (eqb c 77) second e))

-- what begins at `at`: w bytes, and what begins behind them
parted : (s : List ℕ) (w at : ℕ) → drop at s ≡ take w (drop at s) ++ drop (at + w) s
parted s w at = sym (rw (← drop-drop w at s) (take-append-drop w (drop at s)))

module _ (s : List ℕ) (are : Below 256 s) (p : Passed s) where
  number_part : (w at : ℕ) → at + w ≤ length s → drop at s ≡ bytes w (number_at s w at) ++ drop (at + w) s
  number_part w at fits = rw (number_bytes s w at are fits) (parted s w at)

  coords_part : drop 13 s ≡ all_bytes 8 (numbers_at s 8 13 (3 * node_count s)) ++ drop (13 + 24 * node_count s) s
  coords_part =
      let size : 8 * (3 * node_count s) ≡ 24 * node_count s = omega arith in
      rw (little_endian.bytes_back 8 13 (3 * node_count s) s are (omega (arith, p.whole)), size) (parted s (24 * node_count s) 13)

  corners_part : drop (13 + 24 * node_count s) s ≡ all_bytes 4 (numbers_at s 4 (13 + 24 * node_count s) (8 * cell_count s))
  corners_part =
      let at = 13 + 24 * node_count s in
      let long : length (drop at s) ≤ 4 * (8 * cell_count s) = rw length-drop (omega (arith, p.whole)) in
      sym (little_endian.bytes_back 4 at (8 * cell_count s) s are (omega (arith, p.whole)) ∙ take_all (4 * (8 * cell_count s)) (drop at s) long)

  is_file : s ≡ file_of (mesh_at s)
  unfolding mesh_at bytes
  is_file =
      let words = all_bytes 8 (mesh_at s).coords in
      let numbers = all_bytes 4 (mesh_at s).corners in
      let parts : drop 13 s ≡ words ++ numbers = coords_part ∙ ap (λ (l : List ℕ). words ++ l) corners_part in
      let cells : drop 9 s ≡ bytes 4 (cell_count s) ++ _ = number_part 4 9 p.long ∙ ap (λ (l : List ℕ). bytes 4 (cell_count s) ++ l) parts in
      let long : 9 ≤ length s = omega (arith, p.long) in
      let nodes : drop 5 s ≡ bytes 4 (node_count s) ++ _ = number_part 4 5 long ∙ ap (λ (l : List ℕ). bytes 4 (node_count s) ++ l) cells in
      let one : drop 3 s ≡ bytes 2 1 ++ drop 5 s = rw p.one at (number_part 2 3 (omega (arith, p.long))) in
      let start : s ≡ mark ++ drop 3 s = rw (mark_is s p.long p.mark) at (parted s 3 0) in
      start ∙ ap (λ (l : List ℕ). mark ++ l) (one ∙ ap (λ (l : List ℕ). bytes 2 1 ++ l) nodes)

  is_good : Good (mesh_at s)
  unfolding mesh_at fault_of
  is_good =
      let count = corners_long s in
      record {
        nodes_few = p.nodes_few;
        cells_few = p.cells_few;
        coords_whole = length_tabulate (3 * node_count s) (λ (i : ℕ). number_at s 8 (13 + 8 * i));
        corners_whole = count;
        patterns = numbers_below s 8 13 (3 * node_count s) are (omega (arith, p.whole));
        sound = λ c h. faultless_is_sound.sound (node_count s) 8 (mesh_at s).corners p.faultless c (rw count (omega arith));
      }

-- from a mesh to bytes

abbrev mesh : ℕ → ℕ → List ℕ → List ℕ → Mesh
mesh n c x k = record { nodes = n; cells = c; coords = x; corners = k }

pub same_mesh : (n m c d : ℕ) (x y k l : List ℕ) → n ≡ m → c ≡ d → x ≡ y → k ≡ l → mesh n c x k ≡ mesh m d y l
same_mesh n m c d x y k l en ec ex ek = simp (en, ec, ex, ek)

-- a file is its head, eight bytes a word and four a number
pub length_file : (m : Mesh) → length (file_of m) ≡ head_length + 8 * length m.coords + 4 * length m.corners
unfolding bytes
length_file m =
    rw (length-append (nodes_part m.coords) (cells_part m.corners), length_all_bytes 8 m.coords, length_all_bytes 4 m.corners) (omega arith)

module _ (m : Mesh) (g : Good m) where
  abbrev head : List ℕ
  head = head_of 1 m.nodes m.cells

  -- the counts as they are read back
  abbrev body : List ℕ
  body = nodes_part m.coords ++ cells_part m.corners

  nodes_back : node_count (file_of m) ≡ m.nodes
  unfolding bytes
  nodes_back = number_behind 4 m.nodes (mark ++ bytes 2 1) (bytes 4 m.cells ++ body) (omega (arith, g.nodes_few))

  cells_back : cell_count (file_of m) ≡ m.cells
  unfolding bytes
  cells_back = number_behind 4 m.cells (mark ++ (bytes 2 1 ++ bytes 4 m.nodes)) body (omega (arith, g.cells_few))

  version_back : version (file_of m) ≡ 1
  unfolding bytes
  version_back = number_behind 2 1 mark (bytes 4 m.nodes ++ (bytes 4 m.cells ++ body)) (omega arith)

  coords_back : numbers_at (file_of m) 8 13 (3 * node_count (file_of m)) ≡ m.coords
  unfolding bytes
  coords_back = rw (nodes_back, ← g.coords_whole) (little_endian.numbers_back 8 m.coords head (all_bytes 4 m.corners) g.patterns)

  corner_below : Below (256 ^ 4) m.corners
  corner_below i h =
      let whole : 8 * (i / 8) + i % 8 ≡ i = omega arith in
      let small : node 8 m.corners (i / 8) (i % 8) < m.nodes = (g.sound (i / 8) (omega (arith, g.corners_whole))).below (i % 8) (omega arith) in
      let named : get_or m.corners i 0 < m.nodes = rw whole at small in
      omega (arith, g.nodes_few)

  from_is : length (head ++ all_bytes 8 m.coords) ≡ 13 + 24 * m.nodes
  unfolding bytes
  from_is = rw (length-append head (all_bytes 8 m.coords), length_all_bytes 8 m.coords, g.coords_whole) (omega arith)

  corners_back : numbers_at (file_of m) 4 (cells_from (file_of m)) (8 * cell_count (file_of m)) ≡ m.corners
  unfolding bytes
  corners_back =
      let corners = m.corners in
      let before = head ++ all_bytes 8 m.coords in
      let whole : before ++ (all_bytes 4 corners ++ []) ≡ file_of m = ap (λ (l : List ℕ). before ++ l) (append-nil (all_bytes 4 corners)) in
      rw (nodes_back, cells_back, ← g.corners_whole, ← from_is)
      (subst (λ (l : List ℕ). numbers_at l 4 (length before) (length corners) ≡ corners) whole (little_endian.numbers_back 4 corners before [] corner_below))

  length_good : length (file_of m) ≡ head_length + node_bytes * m.nodes + cell_bytes * m.cells
  length_good = length_file m ∙ rw (g.coords_whole, g.corners_whole) (omega arith)

  mesh_back : mesh_at (file_of m) ≡ m
  unfolding mesh_at
  mesh_back = same_mesh _ _ _ _ _ _ _ _ nodes_back cells_back coords_back corners_back

  file_passed : Passed (file_of m)
  unfolding fault_of mesh_at bytes
  file_passed =
      let sound : (c : ℕ) → c < length m.corners / 8 → Sound m.nodes 8 (node 8 m.corners c) = λ c h. g.sound c (omega (arith, g.corners_whole)) in
      record {
        long = omega (arith, length_good);
        mark = refl;
        one = version_back;
        nodes_few = rw nodes_back g.nodes_few;
        cells_few = rw cells_back g.cells_few;
        whole = rw (nodes_back, cells_back) length_good;
        faultless = rw (corners_back, nodes_back) (faultless_is_sound.faultless m.nodes 8 m.corners sound);
      }

pub files_of_meshes : FilesOfMeshes
files_of_meshes =
    record {
      accepted = λ s m are e.
          let file = accepted_passed s m e in
          subst (λ (m : Mesh). Good m × (s ≡ file_of m)) file.1 (is_good s are file.0, is_file s are file.0);
      complete = λ m g. passed_accepted (file_of m) (file_passed m g) ∙ ap answered (mesh_back m g);
    }
