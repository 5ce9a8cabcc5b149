-- The children of a refined mesh hold what its cells hold. A number that a child names stands where the law for one cell has that corner: a node's below n,
-- since the mesh was accepted, and a thing's in the middle of its nodes. Assumes nothing.
use Prim.Native.Nat.{ℕ, ◌+◌, ◌*◌, ◌-◌, ◌<◌}
use native.Mathlib.Omega.{arith}
use mathlib.Core.Path.{◌≡◌, refl, sym, ◌∙◌, ap}
use mathlib.Core.List.{List, [], ◌∷◌, map}
use borrow.Author.Tests.{lt-ltb, ltb-true, ltb-false}
use lib.Dec.{ltb}
use lib.IntN.{ℤ, pos, ◌*ℤ◌, +ℤ_idr}
use lib.ListN.{get_or}
use Rattle.numbers.specs.Rule.{tabulate}
use Rattle.numbers.proofs.Cases.{cases}
use Rattle.numbers.proofs.Tabulate.{tabulate_same}
use Rattle.integers.proofs.Sums.{sum_alike, sum_multiple}
use Rattle.hex_children.specs.Children.{nodes, child_node}
use Rattle.hex_children.specs.Children.{number as number_of}
use Rattle.hex_children.proofs.Grid.{corners_are_nodes}
use Rattle.exact_volume.specs.Volume.{volume216}
use Rattle.exact_volume.proofs.Determinants.{same_corners}
use Rattle.metal.specs.Metal.{eight_middle, child_axis, child_volume}
use Rattle.metal.proofs.Metal.{children_keep_the_metal}
use Rattle.faults.specs.Faults.{Sound}
use Rattle.faults.proofs.Faults.{faultless_is_sound}
use Rattle.numbering.specs.Refinement.{edge, centre, cell_count, edges_of, faces_of, things_of, number, child_numbers}
use Rattle.numbering.proofs.Interface.{grid_at}
use Rattle.numbering.proofs.Steps.{chain_at}
use Rattle.refine.specs.Refine.{all_children}
use Rattle.refine.proofs.Told.{accepted_is_faultless}
use Rattle.metal_mesh.specs.Mesh.{corner_node, nodes_of, stands_at, child_stands, MeshKeepsTheMetal}
use Rattle.metal_mesh.proofs.Middles.{one_place_each}

-- One cell c of an accepted mesh, on one axis.
module _ (x : ℕ → ℤ) (n : ℕ) (cells : List ℕ) (c : ℕ) (below : c < cell_count cells) (sound : Sound n 8 (corner_node cells c)) where
  -- the coordinates of its corners, and the numbers of its 27 nodes
  abbrev own : ℕ → ℤ
  own k = x (corner_node cells c k)

  abbrev numbered : ℕ → ℕ
  numbered =
      number_of (tabulate 8 (corner_node cells c)) (map (number n cells) (edges_of cells c)) (map (number n cells) (faces_of cells c)) (number n cells (centre c))

  -- node m is a corner
  corner_stands : (m : ℕ) → m < 8 → stands_at x n cells (numbered m) ≡ eight_middle own (get_or nodes m [])
  corner_stands m h =
      ap (stands_at x n cells) (tabulate_same 8 numbered (corner_node cells c) refl m h)
      ∙ rw (lt-ltb (corner_node cells c m) n (sound.below m h)) (ap (λ (v : ℤ). pos 8 *ℤ v) (sym (+ℤ_idr (own m))))
      ∙ ap (eight_middle own) (sym (tabulate_same 8 (λ (m : ℕ). get_or nodes m []) (λ (m : ℕ). m ∷ []) refl m h))

  -- node 8 + j is thing j
  thing_stands : (j : ℕ) → j < 19 → stands_at x n cells (numbered (8 + j)) ≡ eight_middle own (get_or nodes (8 + j) [])
  thing_stands j h =
      ap (stands_at x n cells)
      (tabulate_same 19 (λ (j : ℕ). numbered (8 + j)) (λ (j : ℕ). number n cells (get_or (things_of cells c) j (edge []))) refl j h)
      ∙ one_place_each x n cells c j below h
      ∙ tabulate_same 19 (λ (j : ℕ). eight_middle x (nodes_of cells (get_or (things_of cells c) j (edge [])))) (λ (j : ℕ). eight_middle own (get_or nodes (8 + j) []))
      refl j h

  node_stands : (m : ℕ) → m < 27 → stands_at x n cells (numbered m) ≡ eight_middle own (get_or nodes m [])
  node_stands m h =
      cases (ltb m 8)
      (λ t. corner_stands m (ltb-true m 8 t))
      (λ f.
      let behind = ltb-false m 8 f in
      let place : 8 + (m - 8) ≡ m = omega arith in
      rw place at (thing_stands (m - 8) (omega arith)))

  child_stands_lem : (i k : ℕ) → i < 8 → k < 8 → child_stands x n cells c i k ≡ child_axis own i k
  child_stands_lem i k hi hk =
      let place : 64 * c + 8 * i + k ≡ 64 * c + (8 * i + k) = omega arith in
      ap (stands_at x n cells)
      (ap (λ (p : ℕ). get_or (all_children n cells) p 0) place
      ∙ chain_at 64 (child_numbers n cells) (λ d. refl) 0 c (cell_count cells) (8 * i + k) below (omega arith)
      ∙ grid_at (λ (i k : ℕ). numbered (child_node i k)) i k hi hk)
      ∙ node_stands (child_node i k) (corners_are_nodes i k hi hk)

pub mesh_keeps_the_metal : MeshKeepsTheMetal
mesh_keeps_the_metal x y z n cells room free e =
    let of_cell : (x : ℕ → ℤ) → ℕ → ℕ → ℤ = λ x c k. x (corner_node cells c k) in
    let volume : ℕ → ℤ = λ c. volume216 (of_cell x c) (of_cell y c) (of_cell z c) in
    let faultless = accepted_is_faultless n cells room free e in
    sum_alike (cell_count cells) _ (λ (c : ℕ). pos 512 *ℤ volume c)
    (λ c below.
    let sound : Sound n 8 (corner_node cells c) = faultless_is_sound.sound n 8 cells faultless c below in
    sum_alike 8 _ (child_volume (of_cell x c) (of_cell y c) (of_cell z c))
    (λ i hi.
    same_corners
    (λ k hk. child_stands_lem x n cells c below sound i k hi hk)
    (λ k hk. child_stands_lem y n cells c below sound i k hi hk)
    (λ k hk. child_stands_lem z n cells c below sound i k hi hk))
    ∙ children_keep_the_metal.times512 (of_cell x c) (of_cell y c) (of_cell z c))
    ∙ sum_multiple (pos 512) (cell_count cells) volume
