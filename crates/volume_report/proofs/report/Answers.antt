-- `volume_report::report` meets its contract: what `read` finds is looked at, and then reported. Assumes nothing.
use Prim.Native.Nat.{ℕ, ◌*◌, ◌/◌, ◌≤◌}
use native.Mathlib.Omega.{arith}
use mathlib.Core.Path.{◌≡◌, sym, ◌∙◌, ap}
use mathlib.Core.List.{List}
use lib.Dec.{lit≤}
use lib.IntN.{ℤ}
use lib.ListN.{length, take}
use lib.Seq.{length-take-le}
use Rattle.std.specs.Prelude.{Ok, Err}
use Rattle.std.proofs.lemmas.Result.{err_from_is_err_and}
use Rattle.answer.specs.Answer.{Answer, answered, refused, left}
use Rattle.answer.specs.Told.{number}
use Rattle.answer.specs.declared.Refusal.{Refusal}
use Rattle.hxm.specs.Format.{most_words, most_numbers, mesh_at}
use Rattle.hxm.specs.Reads.{counts_in, mesh_into, Reads}
use Rattle.hxm.specs.declared.Counts.{Counts}
use Rattle.hxm.proofs.Ladder.{Found, read_found, read_words, refusal, enough_room}
use Rattle.volume_report.specs.Report.{Report, grid_numbers, mesh_report, room_for, report_into, volumes_in}
use Rattle.volume_report.specs.Told.{summary_of}
use Rattle.volume_report.specs.Sized.{OnGrid}
use Rattle.volume_report.proofs.Meshes.{Reports, refuses, off_grid, on_file, nodes_named, refused_file}
use Rattle.volume_report.proofs.report.Goals as goal

-- what `read` says of a file that it accepts, and leaves in its lists
record Known (s : List ℕ) (k : Counts) (words corners : List ℕ) : Type 0 where
  pub found : Found s k.nodes k.cells corners
  pub coords : take (3 * k.nodes) words ≡ (mesh_at s).coords
  pub long : length (take (3 * k.nodes) words) ≡ 3 * k.nodes

known : {s : List ℕ} {k : Counts} {nodes nodes' cells cells' : List ℕ} → Reads (mesh_into most_words most_numbers s) (Ok k) nodes nodes' cells cells'
    → Known s k nodes' cells'
known reads =
    let words = read_words _ _ _ _ _ _ _ _ (lit≤ tt) (lit≤ tt) reads in
    record { found = read_found _ _ _ _ _ _ _ _ (lit≤ tt) (lit≤ tt) reads; coords = words.0; long = words.1 }

refused_by : (s : List ℕ) {r : Refusal} {nodes nodes' cells cells' : List ℕ} (room : ℕ) (volumes : List ℤ)
    → Reads (mesh_into most_words most_numbers s) (Err r) nodes nodes' cells cells' → Reports (report_into room s) (refused (number r)) volumes volumes
refused_by s {r} room volumes reads =
    let answer = reads.answer ∙ ap counts_in (enough_room most_words most_numbers s (lit≤ tt) (lit≤ tt)) in
    refuses _ _ _ (refused_file s room (number r) (refusal _ _ answer))

-- what `put_numbers` says of its words
module _ {s : List ℕ} {k : Counts} {words corners : List ℕ} (file : Known s k words corners) where
  few : 3 * k.nodes ≤ 3072
  few = omega (arith, file.found.file.passed.nodes_few, file.found.file.nodes)

  refused_by_grid : (room : ℕ) (volumes : List ℤ) (r : ℕ) → grid_numbers (take (3 * k.nodes) words) ≡ refused r
      → Reports (report_into room s) (refused r) volumes volumes
  refused_by_grid room volumes r e = refuses _ _ _ (off_grid s k.nodes k.cells file.found.file room _ r file.coords e)

  module _ (numbers : List ℤ) (e : grid_numbers (take (3 * k.nodes) words) ≡ answered numbers) where
    on_grid : OnGrid numbers (take (8 * k.cells) corners)
    on_grid = nodes_named s k.nodes k.cells file.found.file 0 _ _ _ file.coords file.found.corners file.long file.found.long e

    reported : (room : ℕ) → room_for room (mesh_report numbers (take (8 * k.cells) corners) (length (take (8 * k.cells) corners) / 8)) ≡ report_into room s
    reported room =
        let count : length (take (8 * k.cells) corners) / 8 ≡ k.cells = omega (arith, file.found.long) in
        ap (λ (m : ℕ). room_for room (mesh_report numbers (take (8 * k.cells) corners) m)) count
        ∙ sym (on_file s k.nodes k.cells file.found.file room _ _ _ file.coords file.found.corners e)

pub returns-in_err-counts : goal.returns-in_err-counts
returns-in_err-counts c =
    let p = err_from_is_err_and c.from_residual.result c.from_residual.ensures.1 in
    let said = refused_by c.args.bytes.now (length c.args.volumes.now) c.args.volumes.now c.in_err-counts.ensures in
    rw (p.1, p.2) (record { answer = said.told; output = said.output })

pub slice_bounds-numbers-end : goal.slice_bounds-numbers-end
slice_bounds-numbers-end c = few (known c.in_ok-counts.ensures)

pub slice_bounds-numbers-end-2 : goal.slice_bounds-numbers-end-2
slice_bounds-numbers-end-2 c = sym (length-take-le _ _ (few (known c.in_ok-counts.ensures)))

pub slice_bounds-words-end : goal.slice_bounds-words-end
slice_bounds-words-end c = let h = few (known c.in_ok-counts.ensures) in omega (arith, c.read.auto.nodes)

pub slice_bounds-put_numbers-end : goal.slice_bounds-put_numbers-end
slice_bounds-put_numbers-end c = sym (known c.in_ok-counts.ensures).long

pub returns-in_err-put_numbers : goal.returns-in_err-put_numbers
returns-in_err-put_numbers c =
    let k = known c.in_ok-counts.ensures in
    let p = err_from_is_err_and c.from_residual-in_err-put_numbers.result c.from_residual-in_err-put_numbers.ensures.1 in
    let said = refused_by_grid k (length c.args.volumes.now) c.args.volumes.now _ c.in_err-put_numbers.ensures in
    rw (p.1, p.2) (record { answer = said.told; output = said.output })

pub slice_bounds-cells-end : goal.slice_bounds-cells-end
slice_bounds-cells-end c =
    let k = known c.in_ok-counts.ensures in
    omega (arith, k.found.file.passed.cells_few, k.found.file.cells, c.read.auto.cells)

pub slice_bounds-mesh-end : goal.slice_bounds-mesh-end
slice_bounds-mesh-end c = sym (known c.in_ok-counts.ensures).found.long

pub invariant_of-mesh : goal.invariant_of-mesh
invariant_of-mesh c = let k = known c.in_ok-counts.ensures in
    record { on_grid = on_grid k _ c.in_ok-put_numbers.ensures; few = omega (arith, k.found.long, k.found.file.passed.cells_few, k.found.file.cells) }

pub returns : goal.returns
returns c =
    let k = known c.in_ok-counts.ensures in
    let same = reported k _ c.in_ok-put_numbers.ensures (length c.args.volumes.now) in
    record {
      answer = c.report.ensures.answer ∙ ap summary_of same;
      output = c.report.ensures.output ∙ ap (λ (r : Answer Report). left (volumes_in r) c.args.volumes.now) same;
    }
