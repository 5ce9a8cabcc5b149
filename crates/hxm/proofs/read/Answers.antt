-- `hxm::read` meets its contract: what `judge` accepts is written where there is room for it. Assumes nothing.
use native.Mathlib.Omega.{arith}
use Prim.Native.Nat.{ℕ, ◌*◌, ◌≤◌}
use mathlib.Core.Path.{◌≡◌, sym, ◌∙◌, ap}
use mathlib.Core.List.{List, ◌++◌, map}
use lib.ListN.{length, take, drop}
use lib.Seq.{length-take-le}
use Rattle.std.proofs.lemmas.List.{map-id}
use Rattle.numbers.specs.Little.{numbers_at}
use Rattle.std.proofs.lemmas.Bool.Decides.{nat_tests}
use Rattle.std.proofs.lemmas.Result.{err_from_is_err_and}
use Rattle.hxm.proofs.Ladder.{Counted, counted, refusal, untouched, into_refused, by_room, written}
use Rattle.hxm.proofs.read.Goals as goal

-- the head of a list is loaded, and the rest is as it was
loaded : (s : List ℕ) (w at n : ℕ) (old out : List ℕ) → n ≤ length old → map (λ (x : ℕ). x) out ≡ numbers_at s w at (length (take n old))
    → out ++ drop n old ≡ numbers_at s w at n ++ drop n old
loaded s w at n old out room e =
    ap (λ (l : List ℕ). l ++ drop n old) (sym (map-id out) ∙ e ∙ ap (numbers_at s w at) (length-take-le n old room))

pub returns-in_err-counts : goal.returns-in_err-counts
returns-in_err-counts c =
    let p = err_from_is_err_and c.from_residual.result c.from_residual.ensures.1 in
    rw (p.1, p.2) (untouched _ _ c.args.nodes.now c.args.cells.now (into_refused _ _ _ _ (refusal _ _ c.in_err-counts.ensures)))

pub returns-then-nodes-coords : goal.returns-then-nodes-coords
returns-then-nodes-coords c =
    let room = by_room (length c.args.nodes.now) (length c.args.cells.now) _ _ _ (counted _ _ c.in_ok-counts.ensures) in
    untouched _ _ c.args.nodes.now c.args.cells.now (grind (arith, nat_tests))

pub load_all-requires : goal.load_all-requires
load_all-requires c =
    let file : Counted c.args.bytes.now c.in_ok-counts.counts.nodes c.in_ok-counts.counts.cells = counted _ _ c.in_ok-counts.ensures in
    let room = length-take-le (3 * c.in_ok-counts.counts.nodes) c.args.nodes.now c.if-nodes-coords.false in
    omega arith

pub load_all-requires-2 : goal.load_all-requires-2
load_all-requires-2 c =
    let file : Counted c.args.bytes.now c.in_ok-counts.counts.nodes c.in_ok-counts.counts.cells = counted _ _ c.in_ok-counts.ensures in
    let room = length-take-le (8 * c.in_ok-counts.counts.cells) c.args.cells.now c.if-cells-corners.false in
    omega arith

pub returns : goal.returns
returns c =
    written _ _ _ _ _ (counted _ _ c.in_ok-counts.ensures) c.args.nodes.now _ c.args.cells.now _ c.if-nodes-coords.false c.if-cells-corners.false
    (loaded _ _ _ _ c.args.nodes.now _ c.if-nodes-coords.false c.load_all.ensures)
    (loaded _ _ _ _ c.args.cells.now _ c.if-cells-corners.false c.load_all-2.ensures)
