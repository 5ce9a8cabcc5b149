-- The output, one cell's part after the other. Assumes nothing.
use Prim.Native.Nat.{ℕ, zero, suc, ◌+◌, ◌*◌, ◌/◌, ◌≤◌, ◌<◌, min}
use native.Mathlib.Nat.{le_of_suc-le-suc, not-suc-le-zero}
use native.Mathlib.Numerals.{add-one}
use native.Mathlib.Omega.{arith}
use mathlib.Core.Path.{◌≡◌, refl, sym, ◌∙◌}
use mathlib.Core.List.{List, [], ◌++◌, append_assoc}
use borrow.Rule.Slice.PartMut.{put_mid}
use lib.ListN.{length, get_or, drop, length-take, length-drop}
use lib.Seq.{take_at, drop_at, drop-drop}
use Rattle.std.specs.Simd.{first_chunks}
use Rattle.numbers.proofs.Prefix.{tabulate_where}
use Rattle.numbers.proofs.Tabulate.{tabulate_back}
use Rattle.faults.specs.Faults.{node, names}
use Rattle.faults.proofs.Faults.{taken}
use Rattle.hex_children.specs.Children.{children}
use Rattle.numbering.specs.Refinement.{cell_count, chain}
use Rattle.numbering.proofs.Steps.{chain_length}
use Rattle.mesh_children.specs.MeshChildren.{row, children_of, whole_cells}

-- as the code counts them
pub whole_cells_is : (cells edges faces centers : List ℕ) (room : ℕ)
    → min (min (cell_count cells) (min (min (length edges / 12) (length faces / 6)) (length centers))) (room / 64)
    ≡ whole_cells cells edges faces centers room
unfolding whole_cells
whole_cells_is cells edges faces centers room = refl

-- every cell stands in the lists, where they are long enough for all and there is room for their children
pub all_whole : (cells edges faces centers : List ℕ) (room : ℕ)
    → (12 * cell_count cells ≤ length edges) × (6 * cell_count cells ≤ length faces) × (cell_count cells ≤ length centers) × (64 * cell_count cells ≤ room)
    → whole_cells cells edges faces centers room ≡ cell_count cells
unfolding whole_cells
all_whole cells edges faces centers room fit = omega arith

-- the row of a cell, where a list is taken k numbers at a time
row_long : (k m : ℕ) (l : List ℕ) (c : ℕ) → c < m → m * k ≤ length l → length (get_or (first_chunks k m l) c []) ≡ k
row_long k zero l c h room = absurd (not-suc-le-zero h)
row_long k (suc m) l zero h room = rw length-take (omega arith)
row_long k (suc m) l (suc c) h room = row_long k m (drop k l) c (le_of_suc-le-suc h) (rw length-drop (omega arith))

row_is : (k m : ℕ) (l : List ℕ) (c : ℕ) → c < m → m * k ≤ length l → get_or (first_chunks k m l) c [] ≡ row k l c
row_is k m l c h room =
    sym (tabulate_back (get_or (first_chunks k m l) c []) k 0 (row_long k m l c h room))
    ∙ tabulate_where k (names (get_or (first_chunks k m l) c [])) (node k l c) (λ j below. taken k m l c h j below)

-- the children of cell c, from its rows
pub children_is : (cells edges faces centers : List ℕ) (corners sides quads : List (List ℕ)) (c : ℕ)
    → corners ≡ first_chunks 8 (length cells / 8) cells → sides ≡ first_chunks 12 (length edges / 12) edges → quads ≡ first_chunks 6 (length faces / 6) faces
    → c < length cells / 8 → c < length edges / 12 → c < length faces / 6
    → children (get_or corners c []) (get_or sides c []) (get_or quads c []) (get_or centers c 0) ≡ children_of cells edges faces centers c
unfolding children_of
children_is cells edges faces centers corners sides quads c ec es eq hc hs hq =
    rw (ec, es, eq, row_is 8 _ cells c hc (omega arith), row_is 12 _ edges c hs (omega arith), row_is 6 _ faces c hq (omega arith)) refl

pub children_long : (cells edges faces centers : List ℕ) (c : ℕ) → length (children_of cells edges faces centers c) ≡ 64
unfolding children_of
children_long cells edges faces centers c = refl

pub nothing_yet : (f : ℕ → List ℕ) (o : List ℕ) → o ≡ chain 0 f ++ drop (64 * 0) o
unfolding chain
nothing_yet f o = refl

pub part_more : (f : ℕ → List ℕ) → ((d : ℕ) → length (f d) ≡ 64) → (c k : ℕ) (part out o : List ℕ) → k ≡ 64 → part ≡ f c
    → out ≡ chain c f ++ drop (64 * c) o →
    put_mid (64 * c) k out part ≡ chain (c + 1) f ++ drop (64 * (c + 1)) o
unfolding chain
part_more f long c k part out o hk hp ho =
    let n : 64 * (c + 1) ≡ 64 * c + 64 = omega arith in
    let before = chain_length 64 f long c in
    rw (hk, hp, ho, take_at (chain c f) (drop (64 * c) o) (64 * c), drop_at (chain c f) (drop (64 * c) o) (64 * c), drop-drop, n, add-one, append_assoc)
