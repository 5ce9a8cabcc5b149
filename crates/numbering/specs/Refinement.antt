-- Which number each edge, face and centre of a mesh gets, and which numbers its children name. Document 01, "Refinement", with document 02, 2/12.
-- Definitions and claims only.
use Rattle.std.specs.Prelude.{ℕ, zero, suc, ◌+◌, ◌*◌, ◌/◌, ◌%◌, ◌≤◌, ◌<◌, ◌≡◌, Bool, true, false, ◌&&◌, ◌||◌, not, cond, List, [], ◌∷◌, ◌++◌, map, ◌↔◌, T, eqb, length, get_or}
use Rattle.numbers.specs.Rule.{tabulate, all, any, place_of}
use Rattle.cell.specs.Edges.{end}
use Rattle.faults.specs.Faults.{node, Sound}
use Rattle.hexahedron.specs.Cube.{edges, ring}
use Rattle.hex_children.specs.Children.{children}
use Rattle.numbers.specs.FirstMet.{among, apart, different, Sameness}

-- what gets a number: an edge by its ends, a face by its ring of nodes, and the centre of the cell at a place
pub data Thing : Type 0 where
  edge : List ℕ → Thing
  face : List ℕ → Thing
  centre : ℕ → Thing

-- "a flat list of cells, eight numbers each"
abbrev pub cell_count : List ℕ → ℕ
cell_count cells = length cells / 8

-- the corners of edge e and of face f
abbrev pub edge_corners : ℕ → List ℕ
edge_corners e = tabulate 2 (end edges e)

abbrev pub face_corners : ℕ → List ℕ
face_corners f = tabulate 4 (ring f)

-- their nodes in cell c
abbrev pub edge_nodes : List ℕ → ℕ → ℕ → List ℕ
edge_nodes cells c e = map (node 8 cells c) (edge_corners e)

abbrev pub face_nodes : List ℕ → ℕ → ℕ → List ℕ
face_nodes cells c f = map (node 8 cells c) (face_corners f)

abbrev pub edge_of : List ℕ → ℕ → ℕ → Thing
edge_of cells c e = edge (edge_nodes cells c e)

abbrev pub face_of : List ℕ → ℕ → ℕ → Thing
face_of cells c f = face (face_nodes cells c f)

-- "in each, edges 0 to 11, faces 0 to 5, then the centre"
abbrev pub edges_of : List ℕ → ℕ → List Thing
edges_of cells c = tabulate 12 (edge_of cells c)

abbrev pub faces_of : List ℕ → ℕ → List Thing
faces_of cells c = tabulate 6 (face_of cells c)

abbrev pub things_of : List ℕ → ℕ → List Thing
things_of cells c = edges_of cells c ++ (faces_of cells c ++ (centre c ∷ []))

-- "Cells are taken in order": what the first c cells have, one cell behind the other
unfoldable pub chain : {A : Type 0} → ℕ → (ℕ → List A) → List A
chain zero f = []
chain (suc c) f = chain c f ++ f c

abbrev pub things_to : List ℕ → ℕ → List Thing
things_to cells c = chain c (things_of cells)

abbrev pub things : List ℕ → List Thing
things cells = things_to cells (cell_count cells)

-- the same members, in whatever order
abbrev pub within : {A : Type 0} → (A → A → Bool) → List A → List A → Bool
within same [] qs = true
within same (p ∷ ps) qs = among same qs p && within same ps qs

abbrev pub same_members : {A : Type 0} → (A → A → Bool) → List A → List A → Bool
same_members same ps qs = within same ps qs && within same qs ps

-- the same node numbers
abbrev pub same_nodes : List ℕ → List ℕ → Bool
same_nodes ps qs = same_members eqb ps qs

-- a ring of four gone round from node s on: forward by ones or back by threes, since a ring has four nodes
abbrev pub turned : Bool → ℕ → ℕ → ℕ
turned back s j = s + cond back 3 1 * j

-- the ring ps is the ring qs, gone round so
abbrev pub agree : List ℕ → List ℕ → Bool → ℕ → Bool
agree ps qs back s = all 4 (λ (j : ℕ). eqb (get_or ps j 0) (get_or qs (turned back s j % 4) 0))

-- document 02, 2/12: "Two faces are one only when their rings agree up to where they start and which way they turn."
abbrev pub same_ring : List ℕ → List ℕ → Bool
same_ring ps qs = any 4 (λ (s : ℕ). agree ps qs false s || agree ps qs true s)

-- "An edge is the unordered pair of its ends." "every centre is new"; faces by the rule `one`
abbrev pub same_by : (List ℕ → List ℕ → Bool) → Thing → Thing → Bool
same_by one (edge ps) (edge qs) = same_nodes ps qs
same_by one (edge ps) (face qs) = false
same_by one (edge ps) (centre d) = false
same_by one (face ps) (edge qs) = false
same_by one (face ps) (face qs) = one ps qs
same_by one (face ps) (centre d) = false
same_by one (centre c) (edge qs) = false
same_by one (centre c) (face qs) = false
same_by one (centre c) (centre d) = eqb c d

abbrev pub same : Thing → Thing → Bool
same = same_by same_ring

-- "Two faces with the same four nodes and different rings make the mesh wrong.": one by their nodes and not by their rings
abbrev pub twist : Thing → Thing → Bool
twist x y = same_by same_nodes x y && not (same x y)

-- some two of all faces of all cells are such
unfoldable pub twisted : List ℕ → Bool
twisted cells = not (apart twist (chain (cell_count cells) (faces_of cells)))

abbrev pub SameThings : Type 0
SameThings = Sameness same

-- The numbering, over the rule for faces.
module _ (one : List ℕ → List ℕ → Bool) where
  -- "The first time an edge or face is met it gets the next number, from n up; afterwards it keeps it"
  unfoldable pub given_by : List ℕ → List Thing
  given_by cells = different (same_by one) (things cells)

  abbrev pub number_by : ℕ → List ℕ → Thing → ℕ
  number_by n cells x = n + place_of (same_by one) (given_by cells) x

  -- "The answer is the next free number."
  abbrev pub next_by : ℕ → List ℕ → ℕ
  next_by n cells = n + length (given_by cells)

  -- "Each cell's 64 child numbers"
  abbrev pub child_numbers_by : ℕ → List ℕ → ℕ → List ℕ
  child_numbers_by n cells c =
      children
      (tabulate 8 (node 8 cells c))
      (map (number_by n cells) (edges_of cells c))
      (map (number_by n cells) (faces_of cells c))
      (number_by n cells (centre c))

-- It goes by rings. Document 01's own rule for faces was `same_nodes`.
abbrev pub given : List ℕ → List Thing
given = given_by same_ring

abbrev pub number : ℕ → List ℕ → Thing → ℕ
number = number_by same_ring

abbrev pub next : ℕ → List ℕ → ℕ
next = next_by same_ring

abbrev pub child_numbers : ℕ → List ℕ → ℕ → List ℕ
child_numbers = child_numbers_by same_ring

-- "The search over earlier cells" is enough: the edges of one cell differ, and its faces, because its nodes do.
pub record OwnDiffer : Type 0 where
  pub edges_differ :
      (n : ℕ) (cells : List ℕ) (c : ℕ) → Sound n 8 (node 8 cells c) → (i k : ℕ) → i < k → k < 12 → same (edge_of cells c i) (edge_of cells c k) ≡ false
  pub faces_differ :
      (n : ℕ) (cells : List ℕ) (c : ℕ) → Sound n 8 (node 8 cells c) → (i k : ℕ) → i < k → k < 6 → same (face_of cells c i) (face_of cells c k) ≡ false

-- x is an edge, a face or the centre of one of the cells
abbrev pub IsMet : List ℕ → Thing → Type 0
IsMet cells x = T (among same (things cells) x)

-- how many different ones the cells have, of the parts of each
abbrev pub count_of : (List ℕ → ℕ → List Thing) → List ℕ → ℕ
count_of parts cells = length (different same (chain (cell_count cells) (parts cells)))

-- What a user may count on, for every n and every list of cells.
pub record Numbered (n : ℕ) (cells : List ℕ) : Type 0 where
  -- what a cell has is met
  pub met : (c : ℕ) (x : Thing) → c < cell_count cells → T (among same (things_of cells c) x) → IsMet cells x
  -- what is met has a number from n up to the next free one
  pub inside : (x : Thing) → IsMet cells x → (n ≤ number n cells x) × (number n cells x < next n cells)
  -- each of these numbers is given out
  pub each : (k : ℕ) → n ≤ k → k < next n cells → (x : Thing) × IsMet cells x × (number n cells x ≡ k)
  -- and to one thing: two have one number exactly when they are the same, so cells share a number exactly when they share the edge or face
  pub shared : (x y : Thing) → IsMet cells x → IsMet cells y → (number n cells x ≡ number n cells y) ↔ T (same x y)
  -- the answer counts the different edges, the different faces and the cells
  pub counted : next n cells ≡ n + count_of edges_of cells + count_of faces_of cells + cell_count cells

abbrev pub NumberedOnce : Type 0
NumberedOnce = (n : ℕ) (cells : List ℕ) → Numbered n cells
