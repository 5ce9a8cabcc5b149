-- What writing a mesh file leaves: the answer, and the lent buffer. Document 02, 1/12. Definitions and claims only.
use Rattle.std.specs.Prelude.{ℕ, ◌/◌, ◌%◌, Bool, not, cond, List, eqb, ltb, length}
use Rattle.answer.specs.Answer.{Answer, answered, refused, and_then}
use Rattle.hxm.specs.Format.{most_words, most_numbers, node_words, cell_numbers, Mesh, file_of, fault_in}

-- "from node and cell lists": the mesh of two flat lists. Nobody states a count: there are as many nodes and cells as the lists hold.
abbrev pub mesh_of_lists : List ℕ → List ℕ → Mesh
mesh_of_lists nodes cells = record { nodes = length nodes / node_words; cells = length cells / cell_numbers; coords = nodes; corners = cells }

-- a list of whole items, of so many numbers each
abbrev pub is_whole : ℕ → List ℕ → Bool
is_whole width list = eqb (length list % width) 0

-- "Refusals: 7 (over 3,072 coordinates or 1,024 cell numbers), 8 (node list not whole, cell list not whole), then cell by cell 9, 10"; the last, 8,
-- is the buffer's
unfoldable pub file_for : List ℕ → List ℕ → Answer (List ℕ)
file_for nodes cells =
    cond (ltb most_words (length nodes)) (refused 7)
    (cond (ltb most_numbers (length cells)) (refused 7)
    (cond (not (is_whole node_words nodes)) (refused 8)
    (cond (not (is_whole cell_numbers cells)) (refused 8)
    (cond (not (eqb (fault_in (mesh_of_lists nodes cells)) 0)) (refused (fault_in (mesh_of_lists nodes cells)))
    (answered (file_of (mesh_of_lists nodes cells)))))))

-- "last 8 (buffer too short)", with room for so many bytes
unfoldable pub file_into : ℕ → List ℕ → List ℕ → Answer (List ℕ)
file_into room nodes cells = and_then (file_for nodes cells) (λ (s : List ℕ). cond (ltb room (length s)) (refused 8) (answered s))

-- "It returns the length"
abbrev pub length_of : Answer (List ℕ) → Answer ℕ
length_of file = and_then file (λ (s : List ℕ). answered (length s))
