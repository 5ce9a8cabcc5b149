-- What is reported of a mesh by its lists, and of a file. Assumes nothing.
use Prim.Native.Nat.{ℕ, ◌+◌, ◌*◌, ◌/◌, ◌%◌, ◌≤◌, ◌<◌}
use native.Mathlib.Omega.{arith}
use mathlib.Core.Path.{◌≡◌, refl, sym, ◌∙◌, ap, ap₂, subst, subst⁻¹}
use mathlib.Core.List.{List, ◌++◌}
use lib.IntN.{ℤ, pos}
use lib.ListN.{length, get_or, drop}
use lib.Signed.{le_z}
use borrow.Author.Tests.{lt-ltb, le-ltb}
use Rattle.numbers.proofs.Least.{least_least}
use Rattle.answer.specs.Answer.{Answer, answered, refused, left}
use Rattle.integers.specs.Sizes.{EachWithin}
use Rattle.faults.specs.Faults.{node, Sound, first_fault}
use Rattle.faults.proofs.Faults.{faultless_is_sound}
use Rattle.hxm.specs.Format.{mesh_at, mesh_of, fault_of}
use Rattle.hxm.proofs.Ladder.{Counted, passed_accepted}
use Rattle.volume_report.specs.Report.{Report, grid_numbers, volumes_of, total, first_not_above, mesh_report, room_for, report_of, report_into, volumes_in}
use Rattle.volume_report.specs.declared.Summary.{Summary}
use Rattle.volume_report.specs.Told.{summary_of}
use Rattle.volume_report.specs.Sized.{most_volume, OnGrid}
use Rattle.volume_report.proofs.Cells.{volumes_long, volumes_small}
use Rattle.volume_report.proofs.Words.{numbers_long, numbers_small}

-- what a function answers and leaves that reports this
pub record Reports (found : Answer Report) (answer : Answer Summary) (old new : List ℤ) : Type 0 where
  pub told : answer ≡ summary_of found
  pub output : new ≡ left (volumes_in found) old

pub refuses : (found : Answer Report) (k : ℕ) (old : List ℤ) → found ≡ refused k → Reports found (refused k) old old
refuses found k old e = rw e (record { told = refl; output = refl })

-- ---- a mesh by its lists
module _ (numbers : List ℤ) (cells : List ℕ) (n : ℕ) (old : List ℤ) where
  pub no_room : length old < n → Reports (room_for (length old) (mesh_report numbers cells n)) (refused 8) old old
  no_room short = refuses _ 8 old (rw (volumes_long numbers cells n, lt-ltb (length old) n short))

-- the volumes of its n cells
module _ (numbers : List ℤ) (cells : List ℕ) (n : ℕ) (volumes : List ℤ) (written : volumes ≡ volumes_of numbers cells n) where
  long : length volumes ≡ n
  long = ap length written ∙ volumes_long numbers cells n

  pub small : EachWithin 1024 numbers → EachWithin most_volume volumes
  small grid = subst⁻¹ (EachWithin most_volume) written (volumes_small numbers cells n grid)

  pub first_within : (first : ℕ) → first ≡ first_not_above volumes → first ≤ n
  first_within first e = omega (arith, e, long, (least_least (length volumes) (λ (k : ℕ). le_z (get_or volumes k (pos 0)) (pos 0))).within)

  pub mesh_reported : (old : List ℤ) (sum : ℤ) (first : ℕ) → n ≤ length old → sum ≡ total volumes → first ≡ first_not_above volumes
      → Reports (room_for (length old) (mesh_report numbers cells n)) (answered (record { total = sum; cells = n; first = first })) old (volumes ++ drop n old)
  mesh_reported old sum first room s f =
      let count = volumes_long numbers cells n in
      let sum_is : sum ≡ total (volumes_of numbers cells n) = s ∙ ap total written in
      let first_is : first ≡ first_not_above (volumes_of numbers cells n) = f ∙ ap first_not_above written in
      let enough : room_for (length old) (mesh_report numbers cells n) ≡ answered (mesh_report numbers cells n) =
      rw (count, le-ltb (length old) n room) refl
      in
      subst⁻¹ (λ (a : Answer Report). Reports a (answered (record { total = sum; cells = n; first = first })) old (volumes ++ drop n old)) enough
      (record {
        told = λ i. answered (record { total = sum_is i; cells = sym count i; first = first_is i });
        output = λ i. written i ++ drop (sym count i) old;
      })

-- ---- a file
module _ (s : List ℕ) (n c : ℕ) (file : Counted s n c) (room : ℕ) where
  no_fault : (cells : List ℕ) → cells ≡ (mesh_at s).corners → first_fault n 8 cells ≡ 0
  unfolding fault_of mesh_at
  no_fault cells k = ap₂ (λ (m : ℕ) (l : List ℕ). first_fault m 8 l) (sym file.nodes) k ∙ file.passed.faultless

  pub off_grid : (words : List ℕ) (k : ℕ) → words ≡ (mesh_at s).coords → grid_numbers words ≡ refused k → report_into room s ≡ refused k
  unfolding report_into report_of
  off_grid words k w e = let none : grid_numbers (mesh_at s).coords ≡ refused k = ap grid_numbers (sym w) ∙ e in rw (passed_accepted s file.passed, none)

  cells_is : (mesh_at s).cells ≡ c
  unfolding mesh_at
  cells_is = file.cells

  pub on_file : (words : List ℕ) (numbers : List ℤ) (cells : List ℕ) → words ≡ (mesh_at s).coords → cells ≡ (mesh_at s).corners
      → grid_numbers words ≡ answered numbers → report_into room s ≡ room_for room (mesh_report numbers cells c)
  unfolding report_into report_of
  on_file words numbers cells w k e =
      let all : grid_numbers (mesh_at s).coords ≡ answered numbers = ap grid_numbers (sym w) ∙ e in
      let found : report_into room s ≡ room_for room (mesh_report numbers (mesh_at s).corners (mesh_at s).cells) = rw (passed_accepted s file.passed, all) in
      found ∙ ap₂ (λ (l : List ℕ) (m : ℕ). room_for room (mesh_report numbers l m)) (sym k) cells_is

  -- the numbers have every node that a cell names
  pub nodes_named : (words : List ℕ) (numbers : List ℤ) (cells : List ℕ) → words ≡ (mesh_at s).coords → cells ≡ (mesh_at s).corners → length words ≡ 3 * n
      → length cells ≡ 8 * c → grid_numbers words ≡ answered numbers → OnGrid numbers cells
  nodes_named words numbers cells w k long whole e =
      record {
        small = numbers_small words numbers e;
        named = λ j below.
            let sound : Sound n 8 (node 8 cells (j / 8)) = faultless_is_sound.sound n 8 cells (no_fault cells k) (j / 8) (omega arith) in
            let place : 8 * (j / 8) + j % 8 ≡ j = omega arith in
            let less : get_or cells j 0 < n = subst (λ (i : ℕ). get_or cells i 0 < n) place (sound.below (j % 8) (omega arith)) in
            omega (arith, less, numbers_long words numbers e, long);
      }

pub refused_file : (s : List ℕ) (room k : ℕ) → mesh_of s ≡ refused k → report_into room s ≡ refused k
unfolding report_into report_of
refused_file s room k e = rw e
