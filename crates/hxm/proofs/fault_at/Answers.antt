-- `hxm::fault_at` meets its contract: the cells before the turn's have no fault. Assumes nothing.
use Prim.Native.Nat.{ℕ, ◌+◌, ◌*◌, ◌/◌, ◌<◌}
use native.Mathlib.Omega.{arith}
use mathlib.Core.Path.{◌≡◌, refl, sym, ◌∙◌, ap}
use mathlib.Core.List.{List}
use lib.ListN.{length}
use Rattle.numbers.specs.Little.{number_at, numbers_at}
use Rattle.numbers.proofs.Stored.{length_tabulate}
use Rattle.numbers.proofs.Tabulate.{tabulate_at}
use Rattle.std.proofs.lemmas.Result.{err_from_is_err_and}
use Rattle.faults.specs.Faults.{node, names, first_to}
use Rattle.faults.proofs.Faults.{looked_more, looked_found, refuses}
use Rattle.hxm.proofs.fault_at.Goals as goal

-- of the cells in the file
module _ (s : List ℕ) (at count : ℕ) where
  abbrev corner : ℕ → ℕ
  corner i = number_at s 4 (at + 4 * i)

  abbrev cells : List ℕ
  cells = numbers_at s 4 at (8 * count)

  whole : length cells / 8 ≡ count
  whole = let long = length_tabulate (8 * count) corner in omega arith

  -- the nodes of the turn's cell
  cell_is : (c : ℕ) (cell : List ℕ) → c < count → cell ≡ numbers_at s 4 (at + 32 * c) 8 → (j : ℕ) → j < 8 → names cell j ≡ node 8 cells c j
  cell_is c cell h e j l =
      let from : at + 32 * c + 4 * j ≡ at + 4 * (8 * c + j) = omega arith in
      rw e (tabulate_at 8 (λ (i : ℕ). number_at s 4 (at + 32 * c + 4 * i)) 0 j l
      ∙ ap (number_at s 4) from
      ∙ sym (tabulate_at (8 * count) corner 0 (8 * c + j) (omega arith)))

pub loop-c-init : goal.loop-c-init
unfolding first_to
loop-c-init c = refl

pub returns-in_err-fault_of : goal.returns-in_err-fault_of
returns-in_err-fault_of c =
    let p = err_from_is_err_and c.from_residual.result c.from_residual.ensures.1 in
    let count = whole c.args.bytes.now c.args.at c.args.count in
    rw (p.1, p.2)
    (looked_found _ 8 (cells c.args.bytes.now c.args.at c.args.count) _ _ c.loop-c.invariant
    (cell_is _ _ _ _ _ c.loop-c-test.true c.cell_at.ensures)
    _ (refuses _) c.in_err-fault_of.ensures (omega arith))

pub loop-c-preserved : goal.loop-c-preserved
loop-c-preserved c =
    looked_more _ 8 (cells c.args.bytes.now c.args.at c.args.count) _ _ c.loop-c.invariant
    (cell_is _ _ _ _ _ c.loop-c-test.true c.cell_at.ensures)
    (sym c.in_ok-fault_of.ensures)

pub returns : goal.returns
returns c =
    let count = whole c.args.bytes.now c.args.at c.args.count in
    let all : c.loop-c.c ≡ c.args.count = omega arith in
    rw count (rw all at (sym c.loop-c.invariant))
