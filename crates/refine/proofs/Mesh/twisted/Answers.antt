-- `refine::Mesh::twisted` meets its contract: faces with one number have the same nodes. Assumes nothing.
use Prim.Native.Nat.{ℕ, ◌+◌, ◌*◌, ◌≤◌, ◌<◌}
use native.Mathlib.Omega.{arith}
use mathlib.Core.Path.{◌≡◌, sym, ◌∙◌}
use mathlib.Core.List.{List}
use lib.ListN.{length, take, length-take}
use lib.Seq.{get_or-take}
use Rattle.faults.specs.Faults.{first_fault}
use Rattle.faults.proofs.Faults.{faultless_is_sound}
use Rattle.numbering.specs.Refinement.{same_nodes, cell_count, next_by}
use Rattle.refine.specs.Search.{Agrees, face_number, Between}
use Rattle.refine.proofs.Twists.{numbers_between, differ_is_twisted}
use Rattle.refine.proofs.Mesh.twisted.Goals as goal

-- the first m of a list
long : (l : List ℕ) (m : ℕ) → m ≤ length l → length (take m l) ≡ m
long l m room = rw length-take (omega arith)

agrees : (l : List ℕ) (m : ℕ) (value : ℕ → ℕ) → Agrees l m value → Agrees (take m l) m value
agrees l m value h j below = get_or-take m l j 0 below ∙ h j below

-- the numbers of the first m faces are near enough to the first
near : (n : ℕ) (cells faces : List ℕ) (m : ℕ) → first_fault n 8 cells ≡ 0 → m ≤ 6 * cell_count cells → m ≤ length faces
    → Agrees faces (6 * cell_count cells) (face_number n cells) → next_by same_nodes n cells ≤ n + 2432 → Between n (take m faces) (length (take m faces))
near n cells faces m faultless most room numbers last j below =
    let inside : j < m = rw (long faces m room) at below in
    rw get_or-take (numbers_between n cells (faultless_is_sound.sound n 8 cells faultless) faces numbers last j (omega arith))

pub rings_by_number-kept-requires : goal.rings_by_number-kept-requires
rings_by_number-kept-requires c =
    let mesh = c.args.self.now in
    let few = mesh.few_cells in (
      long c.args.rings.now _ (omega arith) ∙ sym (long c.args.faces.now _ (omega arith)),
      near mesh.n mesh.cells.now c.args.faces.now _ mesh.faultless (omega arith) (omega arith) c.requires.numbers c.requires.few,
    )

pub rings_differ-requires : goal.rings_differ-requires
rings_differ-requires c =
    let mesh = c.args.self.now in
    let few = mesh.few_cells in (
      long c.args.rings.now _ (omega arith) ∙ sym (long c.args.faces.now _ (omega arith)),
      near mesh.n mesh.cells.now c.args.faces.now _ mesh.faultless (omega arith) (omega arith) c.requires.numbers c.requires.few,
    )

pub returns : goal.returns
returns c =
    let mesh = c.args.self.now in
    let cells = mesh.cells.now in
    let few = mesh.few_cells in
    let m = 6 * cell_count cells in
    let sound = faultless_is_sound.sound mesh.n 8 cells mesh.faultless in
    let full : length (take m c.args.faces.now) ≡ m = long c.args.faces.now m (omega arith) in
    rw full at c.rings_differ.ensures
    ∙ differ_is_twisted mesh.n cells sound (take m c.args.faces.now) (agrees _ _ _ c.requires.numbers) (take m c.args.rings.now) c.rings_by_number-kept.result
    (agrees _ _ _ c.requires.rings) (rw full at c.rings_by_number-kept.ensures)
