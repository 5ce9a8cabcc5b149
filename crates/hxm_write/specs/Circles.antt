-- Written and read, read and written: document 02, 1/12. The claims only.
use Rattle.std.specs.Prelude.{ℕ, ◌^◌, ◌≤◌, ◌≡◌, List, length}
use Rattle.numbers.specs.Little.{Below}
use Rattle.answer.specs.Answer.{answered, left}
use Rattle.hxm.specs.Format.{Mesh, file_of, mesh_of, Good}
use Rattle.hxm.specs.Reads.{mesh_into, coords_of, corners_of}
use Rattle.hxm_write.specs.Writes.{mesh_of_lists, file_into}

pub record Circles : Type 0 where
  -- "What it writes, the reader reads back unchanged, each float by its bits": as the mesh that was meant
  pub written_read : (room : ℕ) (nodes cells s : List ℕ) → Below (2 ^ 64) nodes → file_into room nodes cells ≡ answered s
      → mesh_of s ≡ answered (mesh_of_lists nodes cells)
  -- and into lists of these lengths, whatever they held, as the lists that were written
  pub lists_back : (room : ℕ) (nodes cells s words numbers : List ℕ) → Below (2 ^ 64) nodes → file_into room nodes cells ≡ answered s
      → length words ≡ length nodes → length numbers ≡ length cells
      → (left (coords_of (mesh_into (length words) (length numbers) s)) words ≡ nodes)
      × (left (corners_of (mesh_into (length words) (length numbers) s)) numbers ≡ cells)
  -- "what the reader accepts, the writer reproduces byte for byte"
  pub read_written : (room : ℕ) (s : List ℕ) (m : Mesh) → Below 256 s → mesh_of s ≡ answered m → length s ≤ room
      → file_into room m.coords m.corners ≡ answered s
  -- The writer answers exactly when the lists are a good mesh's and there is room, so that it refuses nothing that the reader could read back.
  pub answered_good : (room : ℕ) (nodes cells s : List ℕ) → Below (2 ^ 64) nodes → file_into room nodes cells ≡ answered s
      → Good (mesh_of_lists nodes cells) × (s ≡ file_of (mesh_of_lists nodes cells)) × (length s ≤ room)
  pub good_answered : (room : ℕ) (m : Mesh) → Good m → length (file_of m) ≤ room → file_into room m.coords m.corners ≡ answered (file_of m)
