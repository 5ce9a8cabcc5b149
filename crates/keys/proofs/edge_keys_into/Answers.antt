-- `keys::edge_keys_into` meets its contract: the keys stored are those of the edges passed. Assumes nothing.
use Prim.Native.Nat.{◌*◌, ◌/◌, ◌%◌, min}
use native.Mathlib.Omega.{arith}
use mathlib.Core.Path.{◌≡◌, ap, ◌∙◌}
use Rattle.numbers.proofs.Stored.{stores_more, stores_all}
use Rattle.numbering.specs.Refinement.{cell_count}
use Rattle.keys.specs.Keys.{key}
use Rattle.keys.proofs.Keys.{edge_is}
use Rattle.keys.proofs.edge_keys_into.Goals as goal

pub loop-j-preserved : goal.loop-j-preserved
loop-j-preserved c =
    let few = c.min-j-end.ensures in
    let many = c.as_chunks.ensures.front_len in
    let j = c.loop-j.j in
    let nodes = edge_is _ _ c.as_chunks.ensures.front (j / 12) (omega arith) (j % 12) (omega arith) in
    stores_more _ c.loop-j.invariant (omega arith) (omega arith) (c.edge_key.ensures ∙ ap key nodes)

pub returns : goal.returns
returns c =
    let few = c.min-j-end.ensures in
    let many = c.as_chunks.ensures.front_len in
    let last : 12 * c.min-j-end.result ≡ 12 * min (cell_count c.args.cells.now) 128 = omega arith in
    rw (← last) (stores_all c.loop-j.invariant (omega arith))
