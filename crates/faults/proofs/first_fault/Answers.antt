-- `faults::first_fault` meets its contract: the cells before the turn's have no fault. Assumes nothing.
use Prim.Native.Nat.{ℕ, ◌/◌, ◌<◌}
use native.Mathlib.Omega.{arith}
use mathlib.Core.Path.{◌≡◌, refl, sym}
use mathlib.Core.List.{List, []}
use lib.ListN.{length, get_or}
use Rattle.std.specs.Simd.{first_chunks}
use Rattle.std.proofs.lemmas.Result.{err_from_is_err_and}
use Rattle.faults.specs.Faults.{first_to, names, node}
use Rattle.faults.proofs.Faults.{taken, looked_more, looked_found, refuses}
use Rattle.faults.proofs.first_fault.Goals as goal

-- the nodes of the turn's cell
cell_is : (cells : List ℕ) (whole : List (List ℕ)) (c : ℕ) → whole ≡ first_chunks 8 (length cells / 8) cells → c < length cells / 8
    → (j : ℕ) → j < 8 → names (get_or whole c []) j ≡ node 8 cells c j
cell_is cells whole c e h j l = rw e (taken 8 (length cells / 8) cells c h j l)

pub loop-cell-init : goal.loop-cell-init
unfolding first_to
loop-cell-init c = refl

pub returns-in_err-fault_of : goal.returns-in_err-fault_of
returns-in_err-fault_of c =
    let p = err_from_is_err_and c.from_residual.result c.from_residual.ensures.1 in
    let below : c.loop-cell.cell-index < length c.args.cells.now / 8 = omega (arith, c.as_chunks.ensures.front_len) in
    rw (p.1, p.2) (
    looked_found c.args.n 8 c.args.cells.now c.loop-cell.cell-index _ c.loop-cell.invariant (cell_is _ _ _ c.as_chunks.ensures.front below) _ (refuses _) c.in_err-fault_of.ensures below)

pub loop-cell-preserved : goal.loop-cell-preserved
loop-cell-preserved c =
    let below : c.loop-cell.cell-index < length c.args.cells.now / 8 = omega (arith, c.as_chunks.ensures.front_len) in
    looked_more c.args.n 8 c.args.cells.now c.loop-cell.cell-index _ c.loop-cell.invariant (cell_is _ _ _ c.as_chunks.ensures.front below) (sym c.in_ok-fault_of.ensures)
