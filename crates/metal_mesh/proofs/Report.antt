-- What the cells of a mesh file hold is the total of its report. Assumes nothing.
use Prim.Native.Nat.{ℕ, ◌/◌}
use native.Mathlib.Omega.{arith}
use mathlib.Core.Path.{◌≡◌, sym, ◌∙◌, ap}
use mathlib.Core.List.{List}
use lib.IntN.{ℤ, pos, ◌*ℤ◌}
use lib.ListN.{length}
use Rattle.integers.specs.Sums.{sum_to}
use Rattle.integers.proofs.Sums.{sum_alike}
use Rattle.exact_volume.specs.Volume.{volume216}
use Rattle.exact_volume.proofs.Determinants.{same_corners}
use Rattle.hxm.proofs.Ladder.{accepted_whole}
use Rattle.volume_report.specs.Report.{Report, cell_at, cell_volume, total}
use Rattle.volume_report.proofs.Cells.{corner_is, volumes_by_cell}
use Rattle.volume_report.proofs.Promises.{report_is, total_is_the_sum}
use Rattle.volume_report.proofs.Sums.{total_is}
use Rattle.metal_mesh.specs.Mesh.{corner_node, cells_hold, coordinate, ReportsKeepTheMetal}
use Rattle.metal_mesh.proofs.Mesh.{mesh_keeps_the_metal}

module _ (numbers : List ℤ) (cells : List ℕ) where
  -- the coordinate of corner k of cell c on axis i, and what the cell holds
  abbrev stands : ℕ → ℕ → ℕ → ℤ
  stands c i k = coordinate numbers i (corner_node cells c k)

  abbrev volume : ℕ → ℤ
  volume c = volume216 (stands c 0) (stands c 1) (stands c 2)

  cell_is : (c : ℕ) → volume c ≡ cell_volume numbers (cell_at cells c)
  unfolding cell_volume
  cell_is c = sym (same_corners (corner_is numbers cells c 0) (corner_is numbers cells c 1) (corner_is numbers cells c 2))

pub reports_keep_the_metal : ReportsKeepTheMetal
reports_keep_the_metal s m numbers r file grid report =
    let n = m.cells in
    let cells = m.corners in
    let whole : length cells / 8 ≡ n = omega (arith, accepted_whole s m file) in
    let reported : ℕ → ℤ = λ c. cell_volume numbers (cell_at cells c) in
    let all : cells_hold (coordinate numbers 0) (coordinate numbers 1) (coordinate numbers 2) cells ≡ r.total =
    ap (λ (k : ℕ). sum_to k (volume numbers cells)) whole
    ∙ sum_alike n (volume numbers cells) reported (λ c below. cell_is numbers cells c)
    ∙ total_is n reported
    ∙ ap total (sym (volumes_by_cell numbers cells n) ∙ ap (λ (q : Report). q.volumes) (sym (report_is s m numbers r file grid report)))
    ∙ sym (total_is_the_sum.sum s r report) in
    record {
      cells = all;
      children = λ room free e.
          mesh_keeps_the_metal (coordinate numbers 0) (coordinate numbers 1) (coordinate numbers 2) m.nodes cells room free e
          ∙ ap (λ (v : ℤ). pos 512 *ℤ v) all;
    }
