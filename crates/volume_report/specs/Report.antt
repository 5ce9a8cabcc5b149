-- The exact volumes of a mesh file: document 02, 3/12. Definitions and claims only.
use Rattle.std.specs.Prelude.{ℕ, ◌+◌, ◌*◌, ◌^◌, ◌≤◌, ◌<◌, ◌≡◌, cond, ltb, ℤ, pos, nat_abs, ◌+ℤ◌, length, get_or, ◌≤ℤ◌, ◌<ℤ◌}
use mathlib.Core.List.{List, [], ◌∷◌, map, Perm}
use Rattle.std.specs.Int.Signed.{le_z}
use Rattle.std.specs.Float.Ieee.{of_bits}
use Rattle.std.specs.Float.{binary64}
use Rattle.numbers.specs.Rule.{tabulate, least}
use Rattle.answer.specs.Answer.{Answer, answered, refused, and_then, each}
use Rattle.grid_number.specs.Grid.{grid_number}
use Rattle.exact_volume.specs.Volume.{volume216}
use Rattle.faults.specs.Faults.{node, names}
use Rattle.hxm.specs.Format.{node_words, cell_numbers, most_cells, Mesh, mesh_of}

-- "15, a node that isn't such a whole number, unused nodes too": the words of all nodes as whole numbers
unfoldable pub grid_numbers : List ℕ → Answer (List ℤ)
grid_numbers words = each (λ (word : ℕ). grid_number (of_bits binary64 word)) words

-- the eight nodes of cell c
abbrev pub cell_at : List ℕ → ℕ → List ℕ
cell_at corners c = tabulate cell_numbers (node cell_numbers corners c)

-- the first n cells
abbrev pub cells_of : List ℕ → ℕ → List (List ℕ)
cells_of corners n = tabulate n (cell_at corners)

-- the coordinate on axis i of the node that is corner k of a cell
abbrev pub corner_of : List ℤ → List ℕ → ℕ → ℕ → ℤ
corner_of numbers cell i k = get_or numbers (node_words * names cell k + i) (pos 0)

unfoldable pub cell_volume : List ℤ → List ℕ → ℤ
cell_volume numbers cell = volume216 (corner_of numbers cell 0) (corner_of numbers cell 1) (corner_of numbers cell 2)

-- "that number for each cell of a mesh"
abbrev pub volumes_of : List ℤ → List ℕ → ℕ → List ℤ
volumes_of numbers corners n = map (cell_volume numbers) (cells_of corners n)

-- "the total": of no cells it is 0
abbrev pub total : List ℤ → ℤ
total [] = pos 0
total (v ∷ vs) = v +ℤ total vs

-- "the first cell whose volume is not above zero", or the number of cells where there is none
abbrev pub first_not_above : List ℤ → ℕ
first_not_above volumes = least (length volumes) (λ (c : ℕ). le_z (get_or volumes c (pos 0)) (pos 0))

pub record Report : Type 0 where
  pub volumes : List ℤ
  pub total : ℤ
  pub first : ℕ

-- "Report that number for each cell of a mesh, the total, and the first cell whose volume is not above zero."
abbrev pub report_on : List ℤ → Report
report_on volumes = record { volumes = volumes; total = total volumes; first = first_not_above volumes }

abbrev pub mesh_report : List ℤ → List ℕ → ℕ → Report
mesh_report numbers corners n = report_on (volumes_of numbers corners n)

-- "Refusals: those of the reader but its 8 first, then 15"; the last, 8, is the report's list's
unfoldable pub report_of : List ℕ → Answer Report
report_of s = and_then (mesh_of s) (λ (m : Mesh). and_then (grid_numbers m.coords) (λ (numbers : List ℤ). answered (mesh_report numbers m.corners m.cells)))

-- "last 8, the report's list too short", with room for so many volumes
abbrev pub room_for : ℕ → Report → Answer Report
room_for room r = cond (ltb room (length r.volumes)) (refused 8) (answered r)

unfoldable pub report_into : ℕ → List ℕ → Answer Report
report_into room s = and_then (report_of s) (room_for room)

abbrev pub volumes_in : Answer Report → Answer (List ℤ)
volumes_in found = and_then found (λ (r : Report). answered r.volumes)

-- What a report says is what its list says.
pub record TotalIsTheSum : Type 0 where
  pub sum : (s : List ℕ) (r : Report) → report_of s ≡ answered r → r.total ≡ total r.volumes
  pub each : (s : List ℕ) (r : Report) (m : Mesh) → report_of s ≡ answered r → mesh_of s ≡ answered m → length r.volumes ≡ m.cells

pub record First (r : Report) : Type 0 where
  pub reached : r.first ≤ length r.volumes
  pub before : (c : ℕ) → c < r.first → pos 0 <ℤ get_or r.volumes c (pos 0)
  pub there : r.first < length r.volumes → get_or r.volumes r.first (pos 0) ≤ℤ pos 0

abbrev pub FirstIsTheFirst : Type 0
FirstIsTheFirst = (s : List ℕ) (r : Report) → report_of s ≡ answered r → First r

-- The same cells in another order have the same total.
abbrev pub TotalInAnyOrder : Type 0
TotalInAnyOrder =
    (s t : List ℕ) (m n : Mesh) (r q : Report) → mesh_of s ≡ answered m → mesh_of t ≡ answered n → report_of s ≡ answered r → report_of t ≡ answered q
    → m.coords ≡ n.coords → Perm (cells_of m.corners m.cells) (cells_of n.corners n.cells) → r.total ≡ q.total

-- Every number of every report is below 2^63 in size.
pub record Fits (r : Report) : Type 0 where
  pub cells : length r.volumes ≤ most_cells
  pub volume : (c : ℕ) → nat_abs (get_or r.volumes c (pos 0)) < 2 ^ 63
  pub total : nat_abs r.total < 2 ^ 63

abbrev pub ReportFits : Type 0
ReportFits = (s : List ℕ) (r : Report) → report_of s ≡ answered r → Fits r
