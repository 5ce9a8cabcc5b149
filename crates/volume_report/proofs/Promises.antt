-- What a report says is what its list says, in any order of the cells, and every number of it is small. Assumes nothing.
use Prim.Native.Nat.{ℕ, suc, ◌*◌, ◌≤◌}
use native.Mathlib.Omega.{arith}
use mathlib.Core.Path.{◌≡◌, refl, sym, ◌∙◌, ap, ap₂, subst, subst⁻¹}
use mathlib.Core.Bool.{false}
use mathlib.Core.List.{List, [], ◌∷◌, map, Permᴰ}
use mathlib.Core.Logic.{∥∥₁_elim}
use lib.Dec.{lit≤, lt→ltb}
use lib.IntN.{ℤ, pos, negsuc, ◌+ℤ◌, ℤ_set}
use lib.ListN.{length, get_or}
use lib.Signed.{le_z, ◌<ℤ◌, le_z_yes, lt_z_yes}
use borrow.Author.Tests.{leb-false, le-ltb}
use Rattle.numbers.proofs.Cases.{never}
use Rattle.numbers.proofs.Least.{least_least}
use Rattle.numbers.proofs.Tests.{holds}
use Rattle.answer.specs.Answer.{Answer, answered, refused, and_then}
use Rattle.answer.proofs.Answers.{answered_same, then_answered}
use Rattle.integers.specs.Sizes.{Within, EachWithin}
use Rattle.integers.proofs.Ring.{plus_left_swap}
use Rattle.integers.proofs.Sizes.{within_add}
use Rattle.hxm.specs.Format.{Mesh, mesh_at, mesh_of}
use Rattle.hxm.proofs.Ladder.{Passed, accepted_passed}
use Rattle.volume_report.specs.Sized.{most_volume}
use Rattle.volume_report.specs.Report.{Report, grid_numbers, cell_volume, cells_of, total, report_on, mesh_report, room_for, report_of, report_into}
use Rattle.volume_report.specs.Report.{TotalIsTheSum, First, FirstIsTheFirst, TotalInAnyOrder, Fits, ReportFits}
use Rattle.volume_report.proofs.Cells.{volumes_long, volumes_small}
use Rattle.volume_report.proofs.Words.{numbers_small}

pub report_is : (s : List ℕ) (m : Mesh) (numbers : List ℤ) (r : Report) → mesh_of s ≡ answered m → grid_numbers m.coords ≡ answered numbers
    → report_of s ≡ answered r → r ≡ mesh_report numbers m.corners m.cells
unfolding report_of
report_is s m numbers r file grid e = sym (answered_same (rw (file, grid) at e))

-- what is behind a report: the mesh, and the numbers of its nodes
record Behind (s : List ℕ) (r : Report) : Type 0 where
  pub mesh : Mesh
  pub numbers : List ℤ
  pub file : mesh_of s ≡ answered mesh
  pub on_grid : grid_numbers mesh.coords ≡ answered numbers
  pub is : r ≡ mesh_report numbers mesh.corners mesh.cells

behind : (s : List ℕ) (r : Report) → report_of s ≡ answered r → Behind s r
unfolding report_of
behind s r e =
    let file = then_answered (mesh_of s) _ r e in
    let grid = then_answered (grid_numbers file.value.coords) _ r file.next in
    let all = report_is s file.value grid.value r file.is grid.is e in
    record { mesh = file.value; numbers = grid.value; file = file.is; on_grid = grid.is; is = all }

pub total_is_the_sum : TotalIsTheSum
total_is_the_sum =
    record {
      sum = λ s r e. subst⁻¹ (λ (q : Report). q.total ≡ total q.volumes) (behind s r e).is refl;
      each = λ s r m e f.
          let b = behind s r e in
          let same : b.mesh ≡ m = answered_same (sym b.file ∙ f) in
          ap (λ (q : Report). length q.volumes) b.is ∙ volumes_long b.numbers b.mesh.corners b.mesh.cells ∙ ap (λ (n : Mesh). n.cells) same;
    }

-- ---- the first
above : (v : ℤ) → le_z v (pos 0) ≡ false → pos 0 <ℤ v
above (pos n) e = lt_z_yes (lt→ltb 0 n (leb-false n 0 e))
above (negsuc n) e = never e

first_of : (volumes : List ℤ) → First (report_on volumes)
first_of volumes =
    let least = least_least (length volumes) (λ (c : ℕ). le_z (get_or volumes c (pos 0)) (pos 0)) in
    record {
      reached = least.within;
      before = λ c h. above (get_or volumes c (pos 0)) (least.missed c h);
      there = λ h. le_z_yes (holds _ (least.there h));
    }

pub first_is_the_first : FirstIsTheFirst
first_is_the_first s r e = subst⁻¹ First (behind s r e).is (first_of _)

-- ---- any order
total_reordered : (f : List ℕ → ℤ) {xs ys : List (List ℕ)} → Permᴰ xs ys → total (map f xs) ≡ total (map f ys)
total_reordered f Permᴰ.nil = refl
total_reordered f (Permᴰ.cons e d) = ap₂ (λ (x y : ℤ). x +ℤ y) (ap f e) (total_reordered f d)
total_reordered f (Permᴰ.swap {a} {b} {a'} {b'} {l} e d) =
    plus_left_swap (f a) (f b) (total (map f l)) ∙ ap₂ (λ (x y : ℤ). x +ℤ (y +ℤ total (map f l))) (ap f d) (ap f e)
total_reordered f (Permᴰ.trans d e) = total_reordered f d ∙ total_reordered f e

pub total_in_any_order : TotalInAnyOrder
total_in_any_order s t m n r q fs ft es et coords order =
    let a = behind s r es in
    let b = behind t q et in
    let first : a.mesh ≡ m = answered_same (sym a.file ∙ fs) in
    let second : b.mesh ≡ n = answered_same (sym b.file ∙ ft) in
    let words : a.mesh.coords ≡ b.mesh.coords = ap (λ (x : Mesh). x.coords) first ∙ coords ∙ sym (ap (λ (x : Mesh). x.coords) second) in
    let numbers : a.numbers ≡ b.numbers = answered_same (sym a.on_grid ∙ ap grid_numbers words ∙ b.on_grid) in
    let volumes : Mesh → ℤ = λ x. total (map (cell_volume a.numbers) (cells_of x.corners x.cells)) in
    let same : volumes m ≡ volumes n = ∥∥₁_elim order (ℤ_set _ _) (λ d. total_reordered (cell_volume a.numbers) d) in
    ap (λ (x : Report). x.total) a.is
    ∙ ap volumes first
    ∙ same
    ∙ ap volumes (sym second)
    ∙ ap (λ (l : List ℤ). total (map (cell_volume l) (cells_of b.mesh.corners b.mesh.cells))) numbers
    ∙ sym (ap (λ (x : Report). x.total) b.is)

-- ---- sizes
total_small : (volumes : List ℤ) → EachWithin most_volume volumes → Within (length volumes * most_volume) (total volumes)
total_small [] small = record { within = lit≤ tt }
total_small (v ∷ vs) small =
    let rest = total_small vs (record { at = λ i. small.at (suc i) }) in
    record { within = omega (arith, (within_add (small.at 0) rest).within) }

fits_of : (volumes : List ℤ) → length volumes ≤ 128 → EachWithin most_volume volumes → Fits (report_on volumes)
fits_of volumes few small =
    record {
      cells = few;
      volume = λ c. omega (arith, (small.at c).within);
      total = omega (arith, (total_small volumes small).within, few);
    }

few_cells : (s : List ℕ) → Passed s → (mesh_at s).cells ≤ 128
unfolding mesh_at
few_cells s file = file.cells_few

pub report_fits : ReportFits
report_fits s r e =
    let b = behind s r e in
    let file = accepted_passed s b.mesh b.file in
    let cells : b.mesh.cells ≤ 128 = subst (λ (m : Mesh). m.cells ≤ 128) file.1 (few_cells s file.0) in
    let long = volumes_long b.numbers b.mesh.corners b.mesh.cells in
    let small = numbers_small b.mesh.coords b.numbers b.on_grid in
    subst⁻¹ Fits b.is (fits_of _ (omega (arith, long, cells)) (volumes_small b.numbers b.mesh.corners b.mesh.cells small))

-- a list with room for the most cells is never too short
pub enough_volumes : (room : ℕ) (s : List ℕ) → 128 ≤ room → report_into room s ≡ report_of s
unfolding report_into
enough_volumes room s enough = by (report_of s) refl
  where
    by : (found : Answer Report) → report_of s ≡ found → and_then found (room_for room) ≡ found
    by (answered r) e = rw (le-ltb room (length r.volumes) (omega (arith, (report_fits s r e).cells)))
    by (refused k) e = refl
