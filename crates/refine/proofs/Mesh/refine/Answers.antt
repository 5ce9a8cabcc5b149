-- `refine::Mesh::refine` meets its contract: the lists hold the numbers of all cells, faces by their nodes, and where no face is twisted these are the
-- numbering's. Assumes nothing.
use Prim.Native.Nat.{ℕ, ◌*◌, ◌≤◌, min}
use mathlib.Core.Path.{◌≡◌, sym, ap, ◌∙◌}
use mathlib.Core.Bool.{false}
use mathlib.Core.List.{List}
use native.Mathlib.Omega.{arith}
use lib.ListN.{length, replicate}
use Rattle.answer.specs.Answer.{answered, left}
use Rattle.numbering.specs.Refinement.{twisted, cell_count}
use Rattle.numbering.proofs.Twists.{good_meshes_keep_their_numbers}
use Rattle.keys.specs.Keys.{face_key, face_ring}
use Rattle.refine.proofs.Cell.{all_children}
use Rattle.refine.proofs.Search.{keys_agree}
use Rattle.refine.proofs.Mesh.refine.Goals as goal

-- all keys and rings are there
few_cells : (cells : List ℕ) → length cells ≤ 1024 → 6 * min (cell_count cells) 128 ≡ 6 * cell_count cells
few_cells cells h = omega arith

pub number_cells-free-requires : goal.number_cells-free-requires
number_cells-free-requires c =
    let mesh = c.args.self.now in
    let cells = mesh.cells.now in
    keys_agree c.face_keys_into.new.faces.keys (replicate 768 0) _ (6 * cell_count cells) (face_key cells) (few_cells cells mesh.few_cells)
    c.face_keys_into.ensures.keys

pub twisted-requires-clause-rings : goal.twisted-requires-clause-rings
twisted-requires-clause-rings c =
    let mesh = c.args.self.now in
    let cells = mesh.cells.now in
    keys_agree c.face_keys_into.new.faces.rings (replicate 768 0) _ (6 * cell_count cells) (face_ring cells) (few_cells cells mesh.few_cells)
    c.face_keys_into.ensures.rings

pub returns : goal.returns
returns c =
    let mesh = c.args.self.now in
    let cells = mesh.cells.now in
    let straight : twisted cells ≡ false = sym c.twisted.ensures ∙ c.if-twisted.false in
    let kept = good_meshes_keep_their_numbers mesh.n cells straight in
    let standing = c.number_cells-free.ensures in
    let few = mesh.few_cells in
    let children = all_children mesh.n cells _ _ _ (length c.args.out.now) kept standing.numbers (omega arith, omega arith, omega arith, omega arith) in
    record {
      answer = rw straight (ap answered (standing.free ∙ sym kept.same_next));
      output = c.write_cells.ensures ∙ ap (λ (l : List ℕ). left (answered l) c.args.out.now) children;
    }
