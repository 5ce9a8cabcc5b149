-- What reading a file leaves: the answer, and the two lent lists. Definitions and claims only.
use Rattle.std.specs.Prelude.{ℕ, ◌*◌, ◌≡◌, ◌||◌, cond, List, [], ◌∷◌, ltb, Result}
use Rattle.answer.specs.Answer.{Answer, answered, refused, and_then, left}
use Rattle.answer.specs.Told.{told}
use Rattle.answer.specs.declared.Refusal.{Refusal}
use Rattle.hxm.specs.Format.{node_words, cell_numbers, Mesh, mesh_of}
use Rattle.hxm.specs.declared.Counts.{Counts}

-- "last 8 (lent lists too short)", with room for so many coordinates and corners
unfoldable pub mesh_into : ℕ → ℕ → List ℕ → Answer Mesh
mesh_into coords corners s =
    and_then (mesh_of s) (λ (m : Mesh). cond (ltb coords (node_words * m.nodes) || ltb corners (cell_numbers * m.cells)) (refused 8) (answered m))

-- how many nodes and cells, and the same in a list, as C has them
abbrev pub counts_in : Answer Mesh → Answer Counts
counts_in found = and_then found (λ (m : Mesh). answered (record { nodes = m.nodes; cells = m.cells }))

abbrev pub listed : Answer Counts → Answer (List ℕ)
listed found = and_then found (λ (c : Counts). answered (c.nodes ∷ c.cells ∷ []))

abbrev pub counts : Answer Mesh → Answer (List ℕ)
counts found = and_then found (λ (m : Mesh). answered (m.nodes ∷ m.cells ∷ []))

abbrev pub coords_of : Answer Mesh → Answer (List ℕ)
coords_of found = and_then found (λ (m : Mesh). answered m.coords)

abbrev pub corners_of : Answer Mesh → Answer (List ℕ)
corners_of found = and_then found (λ (m : Mesh). answered m.corners)

-- the answer r to what was found, and the lists of nodes and cells before and behind the call
pub record Reads (found : Answer Mesh) (r : Result Counts Refusal) (nodes nodes' cells cells' : List ℕ) : Type 0 where
  pub answer : told r ≡ counts_in found
  pub nodes_left : nodes' ≡ left (coords_of found) nodes
  pub cells_left : cells' ≡ left (corners_of found) cells
