-- What a user may count on of rings and of meshes without a twisted face: document 02, 2/12. Definitions and claims only.
use Rattle.std.specs.Prelude.{ℕ, ◌+◌, ◌%◌, ◌<◌, ◌≡◌, Bool, false, List, [], ◌∷◌, map, ◌↔◌, T, eqb, length, get_or}
use Rattle.numbers.specs.Rule.{tabulate, count}
use Rattle.numbers.specs.FirstMet.{among, apart}
use Rattle.numbering.specs.Interface.{child_face}
use Rattle.numbering.specs.Refinement.{edge, face, same_members, same_nodes, turned, same_ring, twist, twisted, cell_count, face_nodes, face_of}
use Rattle.numbering.specs.Refinement.{number, next, next_by, child_numbers, child_numbers_by}

-- four different nodes
pub record Four (ps : List ℕ) : Type 0 where
  pub long : length ps ≡ 4
  pub differ : T (apart eqb ps)

-- the sides of a ring, each an unordered pair
abbrev pub side : List ℕ → ℕ → List ℕ
side ps j = get_or ps j 0 ∷ get_or ps ((j + 1) % 4) 0 ∷ []

abbrev pub sides : List ℕ → List (List ℕ)
sides ps = tabulate 4 (side ps)

-- how many sides of one ring are sides of the other
abbrev pub shared_sides : List ℕ → List ℕ → ℕ
shared_sides ps qs = count 4 (λ (j : ℕ). among same_nodes (sides qs) (side ps j))

-- the nodes of a ring in another order, which is a list of their places
abbrev pub order : List ℕ → List ℕ → List ℕ
order ps ks = tabulate 4 (λ (j : ℕ). get_or ps (get_or ks j 0) 0)

-- opposite the first node stands the third, the fourth or the second
abbrev pub three_rings : List ℕ → List (List ℕ)
three_rings ps = map (order ps) ((0 ∷ 1 ∷ 2 ∷ 3 ∷ []) ∷ (0 ∷ 1 ∷ 3 ∷ 2 ∷ []) ∷ (0 ∷ 2 ∷ 1 ∷ 3 ∷ []) ∷ [])

pub record RingsBySides : Type 0 where
  -- the same ring is the same four sides
  pub by_sides : (ps qs : List ℕ) → Four ps → Four qs → same_ring ps qs ≡ same_members same_nodes (sides ps) (sides qs)
  -- the eight turns of a ring are the same ring
  pub turns : (ps : List ℕ) (back : Bool) (s : ℕ) → s < 4 → T (same_ring (tabulate 4 (λ (j : ℕ). get_or ps (turned back s j % 4) 0)) ps)
  -- and the orders of four nodes are three rings
  pub differ : (ps : List ℕ) → Four ps → T (apart same_ring (three_rings ps))
  pub no_fourth : (ps qs : List ℕ) → Four ps → Four qs → T (same_nodes ps qs) → T (among same_ring (three_rings ps) qs)

-- "they share four nodes but two of the edges differ"
abbrev pub TwistedTears : Type 0
TwistedTears =
    (ps qs : List ℕ) → Four ps → Four qs → T (same_nodes ps qs) → same_ring ps qs ≡ false → (shared_sides ps qs ≡ 2) × (shared_sides qs ps ≡ 2)

-- A mesh is twisted exactly when two faces are, whichever cells they are of.
abbrev pub TwistedByPairs : Type 0
TwistedByPairs =
    (cells : List ℕ) → (twisted cells ≡ false)
    ↔ ((c d f g : ℕ) → c < cell_count cells → d < cell_count cells → f < 6 → g < 6 → twist (face_of cells c f) (face_of cells d g) ≡ false)

-- Where no face is twisted, faces with the same nodes are one, and the numbers are those of document 01's rule.
pub record KeptNumbers (n : ℕ) (cells : List ℕ) : Type 0 where
  pub one_rule : (c d f g : ℕ) → c < cell_count cells → d < cell_count cells → f < 6 → g < 6 →
      same_ring (face_nodes cells c f) (face_nodes cells d g) ≡ same_nodes (face_nodes cells c f) (face_nodes cells d g)
  pub same_next : next n cells ≡ next_by same_nodes n cells
  pub same_children : (c : ℕ) → c < cell_count cells → child_numbers n cells c ≡ child_numbers_by same_nodes n cells c

abbrev pub GoodMeshesKeepTheirNumbers : Type 0
GoodMeshesKeepTheirNumbers = (n : ℕ) (cells : List ℕ) → twisted cells ≡ false → KeptNumbers n cells

-- a quarter of a face, at node j of its ring: the corner, the middles of the two sides that meet there and the face's middle, by number
abbrev pub quarter : ℕ → List ℕ → List ℕ → ℕ → List ℕ
quarter n cells ps j =
    let at : ℕ → ℕ = λ i. get_or ps (i % 4) 0 in
    at j ∷ number n cells (edge (at j ∷ at (j + 1) ∷ [])) ∷ number n cells (face ps) ∷ number n cells (edge (at j ∷ at (j + 3) ∷ [])) ∷ []

pub record NoTear : Type 0 where
  -- the four child faces of a face are its quarters
  pub quarters : (n : ℕ) (cells : List ℕ) (c f j : ℕ) → f < 6 → j < 4 →
      tabulate 4 (λ (k : ℕ). child_face n cells c f j (j + k)) ≡ quarter n cells (face_nodes cells c f) j
  -- two faces that have the same four nodes have one middle, and each quarter of one is a quarter of the other
  pub together : (n : ℕ) (cells : List ℕ) (c d f g : ℕ) → twisted cells ≡ false → c < cell_count cells → d < cell_count cells → f < 6 → g < 6 →
      T (same_nodes (face_nodes cells c f) (face_nodes cells d g)) →
      (number n cells (face_of cells c f) ≡ number n cells (face_of cells d g))
      × ((j : ℕ) → j < 4 → (k : ℕ) × (k < 4) × T (same_nodes (quarter n cells (face_nodes cells c f) j) (quarter n cells (face_nodes cells d g) k)))
