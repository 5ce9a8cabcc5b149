-- What the program `hexkids` prints for a file: document 01, "Worked examples". Definitions and claims only.
use Rattle.std.specs.Prelude.{ℕ, ◌*◌, ◌≡◌, List, [], ◌∷◌, ◌++◌, take}
use Rattle.answer.specs.Answer.{Answer, answered, and_then}
use Rattle.hxm.specs.Format.{Mesh, mesh_of}
use Rattle.numbering.specs.Refinement.{cell_count}
use Rattle.refine.specs.Refine.{refined, all_children}
use Rattle.text.specs.Text.{decimal, newline, shown}
use Rattle.kids.specs.Table.{table}

-- "cells " and " nodes "
abbrev pub cells_word : List ℕ
cells_word = 99 ∷ 101 ∷ 108 ∷ 108 ∷ 115 ∷ 32 ∷ []

abbrev pub nodes_word : List ℕ
nodes_word = 32 ∷ 110 ∷ 111 ∷ 100 ∷ 101 ∷ 115 ∷ 32 ∷ []

-- "cells 8 nodes 27", and then the eight numbers of each child in a line
abbrev pub head_line : ℕ → ℕ → List ℕ
head_line cells next = cells_word ++ (decimal (8 * cells) ++ (nodes_word ++ (decimal next ++ (newline ∷ []))))

abbrev pub report : ℕ → ℕ → List ℕ → List ℕ
report cells next children = head_line cells next ++ table 8 children (8 * cells)

-- the children of a mesh, with room for those of 128 cells
unfoldable pub kids_of : ℕ → List ℕ → Answer (List ℕ)
kids_of n cells =
    and_then (refined n cells 8192) (λ (next : ℕ). answered (report (cell_count cells) next (all_children n cells)))

-- and those of the mesh that a file has
abbrev pub kids_in : List ℕ → Answer (List ℕ)
kids_in s = and_then (mesh_of s) (λ (m : Mesh). kids_of m.nodes m.corners)

-- what is printed for the bytes of a file
unfoldable pub printed : List ℕ → List ℕ
printed s = shown (and_then (mesh_of s) (λ (m : Mesh). kids_of m.nodes m.corners))

-- Of a file of whatever length the first 28,686 bytes decide what is printed.
abbrev pub EnoughToPrint : Type 0
EnoughToPrint = (s : List ℕ) → printed (take 28686 s) ≡ printed s
