-- One cell more: what the lists hold is what the numbering says, and so the children written from them are the numbering's. Assumes nothing.
use Prim.Native.Nat.{ℕ, zero, suc, ◌+◌, ◌*◌, ◌/◌, ◌%◌, ◌≤◌, ◌<◌}
use native.Mathlib.Omega.{arith}
use mathlib.Core.Path.{◌≡◌, refl, sym, ap, ◌∙◌}
use mathlib.Core.List.{List, [], ◌++◌, append-nil}
use lib.ListN.{length, get_or, set}
use Rattle.numbers.specs.Rule.{tabulate}
use Rattle.numbers.proofs.Prefix.{tabulate_where}
use Rattle.numbers.proofs.Slots.{row_next, row_within, slot_row, slot_place}
use Rattle.faults.specs.Faults.{node, Sound}
use Rattle.hex_children.specs.Children.{children}
use Rattle.numbering.specs.Refinement.{Thing, cell_count, edge_of, face_of, edges_of, faces_of, chain, things_to, same_nodes, number_by, child_numbers, child_numbers_by}
use Rattle.numbering.specs.Rings.{KeptNumbers}
use Rattle.numbering.proofs.Steps.{next_after}
use Rattle.keys.specs.Keys.{edge_key, face_key}
use Rattle.mesh_children.specs.MeshChildren.{row, children_of, children_by}
use Rattle.mesh_children.proofs.Output.{all_whole}
use Rattle.refine.specs.Search.{new_from, numbered, Agrees, edge_number, face_number, centre_number, Standing}
use Rattle.refine.proofs.Rules.{edge_rule, face_rule, centre_rule}
use Rattle.refine.proofs.Search.{agrees_more, goes_on}

pub stands_first : (n : ℕ) (cells edges faces centers : List ℕ) → Standing n cells edges faces centers 0
stands_first n cells edges faces centers =
    record {
      of_edges = λ j below. absurd (omega arith);
      of_faces = λ j below. absurd (omega arith);
      of_centres = λ j below. absurd (omega arith);
    }

-- with the edges of cell c, and with its faces, and the next number behind them
record Edged (n : ℕ) (cells : List ℕ) (c : ℕ) (edges : List ℕ) (next : ℕ) : Type 0 where
  pub agree : Agrees edges (12 * c + 12) (edge_number n cells)
  pub next_is : next ≡ next_after same_nodes n (things_to cells c ++ edges_of cells c)

record Faced (n : ℕ) (cells : List ℕ) (c : ℕ) (faces : List ℕ) (next : ℕ) : Type 0 where
  pub agree : Agrees faces (6 * c + 6) (face_number n cells)
  pub next_is : next ≡ next_after same_nodes n ((things_to cells c ++ edges_of cells c) ++ faces_of cells c)

module _ (n : ℕ) (few : n ≤ 1024) (cells : List ℕ) (sound : (d : ℕ) → d < cell_count cells → Sound n 8 (node 8 cells d)) (c : ℕ) (below : c < cell_count cells)
    (edges faces centers : List ℕ) (next : ℕ) (held : Standing n cells edges faces centers c) (of_next : next ≡ next_after same_nodes n (things_to cells c)) where
  by_edges : (keys edges' : List ℕ) (middle : ℕ) → Agrees keys (12 * cell_count cells) (edge_key cells)
      → 12 * c + 12 ≤ length keys → 12 * c + 12 ≤ length edges
      → edges' ≡ numbered keys edges (12 * c) next 12 → middle ≡ next + new_from keys (12 * c) 12 → Edged n cells c edges' middle
  by_edges keys edges' middle keyed inside room is after =
      let nil = append-nil (things_to cells c) in
      let first = of_next ∙ sym (ap (next_after same_nodes n) (append-nil (things_to cells c ++ []) ∙ nil)) in
      let rule = edge_rule n few cells sound c below keys keyed in
      let done = goes_on keys edges (12 * c) 12 next (edge_number n cells) _ rule inside held.of_edges first edges' middle room is after in
      record { agree = done.0; next_is = done.1 ∙ ap (λ (l : List Thing). next_after same_nodes n (l ++ edges_of cells c)) nil }

  by_faces : (keys edges' faces' : List ℕ) (middle center : ℕ) → Agrees keys (6 * cell_count cells) (face_key cells)
      → 6 * c + 6 ≤ length keys → 6 * c + 6 ≤ length faces
      → Edged n cells c edges' middle
      → faces' ≡ numbered keys faces (6 * c) middle 6 → center ≡ middle + new_from keys (6 * c) 6 → Faced n cells c faces' center
  by_faces keys edges' faces' middle center keyed inside room edged is after =
      let first = edged.next_is ∙ sym (ap (next_after same_nodes n) (append-nil (things_to cells c ++ edges_of cells c))) in
      let rule = face_rule n few cells sound c below keys keyed in
      let done = goes_on keys faces (6 * c) 6 middle (face_number n cells) _ rule inside held.of_faces first faces' center room is after in
      record { agree = done.0; next_is = done.1 }

  one_more : (edges' faces' : List ℕ) (middle center : ℕ) → c < length centers → Edged n cells c edges' middle → Faced n cells c faces' center
      → Standing n cells edges' faces' (set centers c center) (c + 1) × (center + 1 ≡ next_after same_nodes n (things_to cells (c + 1)))
  one_more edges' faces' middle center room edged faced =
      let middle_of = centre_rule n few cells sound c below in (
        record {
          of_edges = rw (row_next 12 c) edged.agree;
          of_faces = rw (row_next 6 c) faced.agree;
          of_centres = agrees_more centers c (c + 1) center (centre_number n cells) refl room (faced.next_is ∙ sym middle_of.0) held.of_centres;
        },
        ap (λ (k : ℕ). k + 1) faced.next_is ∙ sym middle_of.1,
      )

  -- one cell more
  pub cell_more : (edge_keys face_keys edges' faces' : List ℕ) (middle center : ℕ)
      → Agrees edge_keys (12 * cell_count cells) (edge_key cells) → Agrees face_keys (6 * cell_count cells) (face_key cells)
      → 12 * c + 12 ≤ length edge_keys → 6 * c + 6 ≤ length face_keys → 12 * c + 12 ≤ length edges → 6 * c + 6 ≤ length faces → c < length centers
      → edges' ≡ numbered edge_keys edges (12 * c) next 12 → middle ≡ next + new_from edge_keys (12 * c) 12
      → faces' ≡ numbered face_keys faces (6 * c) middle 6 → center ≡ middle + new_from face_keys (6 * c) 6
      → Standing n cells edges' faces' (set centers c center) (c + 1) × (center + 1 ≡ next_after same_nodes n (things_to cells (c + 1)))
  cell_more edge_keys face_keys edges' faces' middle center edge_keyed face_keyed in_edges in_faces edge_room face_room room edges_are mid faces_are last =
      let edged = by_edges edge_keys edges' middle edge_keyed in_edges edge_room edges_are mid in
      let faced = by_faces face_keys edges' faces' middle center face_keyed in_faces face_room edged faces_are last in
      one_more edges' faces' middle center room edged faced

-- the numbers of one cell in a list that agrees with a rule up to m cells
row_is : (w c m : ℕ) (numbers : List ℕ) (f : ℕ → ℕ → ℕ) → c < m → Agrees numbers (w * m) (λ (j : ℕ). f (j / w) (j % w)) → row w numbers c ≡ tabulate w (f c)
row_is w c m numbers f below h =
    let inside = row_within w c m below in
    tabulate_where w (λ (k : ℕ). get_or numbers (w * c + k) 0) (f c) (λ k l. h (w * c + k) (omega arith) ∙ rw (slot_row w c k l, slot_place w c k l))

-- children of the same numbers
same_children : (corner : List ℕ) {edge edge' quad quad' : List ℕ} {center center' : ℕ} → edge ≡ edge' → quad ≡ quad' → center ≡ center'
    → children corner edge quad center ≡ children corner edge' quad' center'
same_children corner {edge' = edge'} {quad = quad} {quad' = quad'} {center = center} e q c =
    ap (λ (x : List ℕ). children corner x quad center) e ∙ ap (λ (x : List ℕ). children corner edge' x center) q ∙ ap (children corner edge' quad') c

pub cell_children : (n : ℕ) (cells edges faces centers : List ℕ) (m c : ℕ) → Standing n cells edges faces centers m → c < m
    → children_of cells edges faces centers c ≡ child_numbers_by same_nodes n cells c
unfolding children_of
cell_children n cells edges faces centers m c held below =
    same_children (row 8 cells c)
    (row_is 12 c m edges (λ (d e : ℕ). number_by same_nodes n cells (edge_of cells d e)) below held.of_edges)
    (row_is 6 c m faces (λ (d f : ℕ). number_by same_nodes n cells (face_of cells d f)) below held.of_faces)
    (held.of_centres c below)

-- of all cells
chain_alike : {A : Type 0} (m : ℕ) (f g : ℕ → List A) → ((c : ℕ) → c < m → f c ≡ g c) → chain m f ≡ chain m g
unfolding chain
chain_alike zero f g h = refl
chain_alike (suc m) f g h = rw (chain_alike m f g (λ c below. h c (omega arith)), h m (omega arith))

-- In a mesh without a twisted face that is the numbering by rings.
pub all_children : (n : ℕ) (cells edges faces centers : List ℕ) (room : ℕ) → KeptNumbers n cells → Standing n cells edges faces centers (cell_count cells)
    → (12 * cell_count cells ≤ length edges) × (6 * cell_count cells ≤ length faces) × (cell_count cells ≤ length centers) × (64 * cell_count cells ≤ room)
    → children_by cells edges faces centers room ≡ chain (cell_count cells) (child_numbers n cells)
all_children n cells edges faces centers room kept held fit =
    let m = cell_count cells in
    ap (λ (k : ℕ). chain k (children_of cells edges faces centers)) (all_whole cells edges faces centers room fit)
    ∙ chain_alike m (children_of cells edges faces centers) (child_numbers n cells)
    (λ c below. cell_children n cells edges faces centers m c held below ∙ sym (kept.same_children c below))
