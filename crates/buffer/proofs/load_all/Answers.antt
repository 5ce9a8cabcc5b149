-- `buffer::load_all` meets its contract: before turn i the first i numbers are read. A place that is too great for a number lies behind the end. Assumes nothing.
use Prim.Native.Nat.{◌*◌, ◌≤◌}
use native.Mathlib.Omega.{arith}
use mathlib.Core.Path.{◌∙◌}
use mathlib.Core.List.{map}
use lib.ListN.{length}
use Rattle.std.proofs.lemmas.List.{length-map, map-set}
use Rattle.numbers.proofs.Stored.{stores_none, stores_more}
use Rattle.buffer.proofs.Numbers.{number_held, all_loaded}
use Rattle.buffer.proofs.load_all.Goals as goal

pub loop-i-init : goal.loop-i-init
loop-i-init g c = stores_none

pub loop-i-preserved : goal.loop-i-preserved
loop-i-preserved g c =
    let value = g.T.Little.value in
    let room : length c.args.out.now ≤ length (map value c.args.out.now) = rw length-map (omega arith) in
    let here = rw (c.saturating_add.ensures, c.saturating_mul.ensures, c.WIDTH.ensures) at c.load.ensures in
    let place = number_held c.args.bytes.now g.T.Little.WIDTH c.args.at (g.T.Little.WIDTH * c.loop-i.i) 18446744073709551615 (omega arith) in
    rw map-set (stores_more (value c.load.result) c.loop-i.invariant c.loop-i-test.true room (here ∙ place))

pub returns : goal.returns
returns g c =
    all_loaded g.T.Little.value c.args.out.now c.loop-i.out c.args.bytes.now g.T.Little.WIDTH c.args.at c.loop-i.invariant c.loop-i-test.false
