-- The mesh file HXM, version 1: which bytes are a mesh, and which mesh. Definitions and claims only.
use Rattle.std.specs.Prelude.{ℕ, ◌+◌, ◌*◌, ◌^◌, ◌<◌, ◌≤◌, ◌≡◌, Bool, not, ◌||◌, cond, List, [], ◌∷◌, ◌++◌, eqb, ltb, length, get_or, take}
use Rattle.numbers.specs.Rule.{all}
use Rattle.numbers.specs.Little.{number_at, numbers_at, bytes, all_bytes, Below}
use Rattle.answer.specs.Answer.{Answer, answered, refused}
use Rattle.faults.specs.Faults.{node, first_fault, Sound}

-- "over 1,024 nodes, 128 cells"
abbrev pub most_nodes : ℕ
most_nodes = 1024

abbrev pub most_cells : ℕ
most_cells = 128

-- "nodes of three float64 bit patterns, cells of eight 32-bit numbers"
abbrev pub node_words : ℕ
node_words = 3

abbrev pub cell_numbers : ℕ
cell_numbers = 8

-- so a mesh has at most so many words and numbers: 3,072 and 1,024
abbrev pub most_words : ℕ
most_words = node_words * most_nodes

abbrev pub most_numbers : ℕ
most_numbers = cell_numbers * most_cells

-- and a node and a cell are so many bytes: 24 and 32
abbrev pub node_bytes : ℕ
node_bytes = 8 * node_words

abbrev pub cell_bytes : ℕ
cell_bytes = 4 * cell_numbers

-- how many nodes and cells, the words of the nodes, and the numbers of the cells
pub record Mesh : Type 0 where
  pub nodes : ℕ
  pub cells : ℕ
  pub coords : List ℕ
  pub corners : List ℕ

-- "`HXM`"
abbrev pub mark : List ℕ
mark = 72 ∷ 88 ∷ 77 ∷ []

-- "`HXM`, version 1 as 16 bits, node count and cell count as 32 bits"
abbrev pub head_of : ℕ → ℕ → ℕ → List ℕ
head_of version nodes cells = mark ++ (bytes 2 version ++ (bytes 4 nodes ++ bytes 4 cells))

-- "nodes of three float64 bit patterns"
abbrev pub nodes_part : List ℕ → List ℕ
nodes_part coords = all_bytes 8 coords

-- "cells of eight 32-bit numbers"
abbrev pub cells_part : List ℕ → List ℕ
cells_part corners = all_bytes 4 corners

-- "Little-endian, nothing after."
abbrev pub file_of : Mesh → List ℕ
file_of m = head_of 1 m.nodes m.cells ++ (nodes_part m.coords ++ cells_part m.corners)

-- the same layout, read
abbrev pub head_length : ℕ
head_length = 13

abbrev pub version : List ℕ → ℕ
version s = number_at s 2 3

abbrev pub node_count : List ℕ → ℕ
node_count s = number_at s 4 5

abbrev pub cell_count : List ℕ → ℕ
cell_count s = number_at s 4 9

-- where the cells begin, and where they end
abbrev pub cells_from : List ℕ → ℕ
cells_from s = head_length + node_bytes * node_count s

abbrev pub file_length : List ℕ → ℕ
file_length s = cells_from s + cell_bytes * cell_count s

unfoldable pub mesh_at : List ℕ → Mesh
mesh_at s =
    record {
      nodes = node_count s;
      cells = cell_count s;
      coords = numbers_at s 8 head_length (node_words * node_count s);
      corners = numbers_at s 4 (cells_from s) (cell_numbers * cell_count s);
    }

abbrev pub marked : List ℕ → Bool
marked s = all 3 (λ (i : ℕ). eqb (get_or s i 0) (get_or mark i 0))

-- "cell by cell 9, 10"
abbrev pub fault_in : Mesh → ℕ
fault_in m = first_fault m.nodes cell_numbers m.corners

unfoldable pub fault_of : List ℕ → ℕ
fault_of s = fault_in (mesh_at s)

-- "File: 13 if under 13 bytes, 11, 12, 7, 13, then cell by cell 9, 10"; the last, 8, is the lent lists'
unfoldable pub mesh_of : List ℕ → Answer Mesh
mesh_of s =
    cond (ltb (length s) head_length) (refused 13)
    (cond (not (marked s)) (refused 11)
    (cond (not (eqb (version s) 1)) (refused 12)
    (cond (ltb most_nodes (node_count s) || ltb most_cells (cell_count s)) (refused 7)
    (cond (not (eqb (length s) (file_length s))) (refused 13)
    (cond (not (eqb (fault_of s) 0)) (refused (fault_of s))
    (answered (mesh_at s)))))))

-- a mesh within the limits: whole nodes of 64-bit patterns, whole cells, each of eight different nodes
pub record Good (m : Mesh) : Type 0 where
  pub nodes_few : m.nodes ≤ most_nodes
  pub cells_few : m.cells ≤ most_cells
  pub coords_whole : length m.coords ≡ node_words * m.nodes
  pub corners_whole : length m.corners ≡ cell_numbers * m.cells
  pub patterns : Below (2 ^ 64) m.coords
  pub sound : (c : ℕ) → c < m.cells → Sound m.nodes cell_numbers (node cell_numbers m.corners c)

-- A file is accepted exactly when it is the file of a good mesh, and then as that mesh.
pub record FilesOfMeshes : Type 0 where
  pub accepted : (s : List ℕ) (m : Mesh) → Below 256 s → mesh_of s ≡ answered m → Good m × (s ≡ file_of m)
  pub complete : (m : Mesh) → Good m → mesh_of (file_of m) ≡ answered m

-- No good file is longer than 28,685 bytes, so that one byte more is enough to tell what a file is.
abbrev pub longest_file : ℕ
longest_file = head_length + node_bytes * most_nodes + cell_bytes * most_cells

abbrev pub EnoughToTell : Type 0
EnoughToTell = (s : List ℕ) → mesh_of (take (longest_file + 1) s) ≡ mesh_of s
