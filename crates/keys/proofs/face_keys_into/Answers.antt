-- `keys::face_keys_into` meets its contract: what is stored are the keys of the faces passed, and the nodes opposite the smallest ones. Assumes nothing.
use Prim.Native.Nat.{◌*◌, ◌/◌, ◌%◌, min}
use native.Mathlib.Omega.{arith}
use mathlib.Core.Path.{◌≡◌, ap, ◌∙◌}
use Rattle.numbers.proofs.Stored.{stores_more, stores_all}
use Rattle.numbering.specs.Refinement.{cell_count}
use Rattle.keys.specs.Keys.{key, opposite}
use Rattle.keys.proofs.Keys.{face_is}
use Rattle.keys.proofs.face_keys_into.Goals as goal

pub loop-j-preserved : goal.loop-j-preserved
loop-j-preserved c =
    let few = c.min-j-end.ensures in
    let many = c.as_chunks.ensures.front_len in
    let j = c.loop-j.j in
    let inv = c.loop-j.invariant in
    let nodes = c.face_nodes-ring.ensures ∙ face_is _ _ c.as_chunks.ensures.front (j / 6) (omega arith) (j % 6) (omega arith) in (
      stores_more _ inv.0 (omega arith) (omega arith) (c.face_key.ensures ∙ ap key nodes),
      stores_more _ inv.1 (omega arith) (omega arith) (c.opposite.ensures ∙ ap opposite nodes),
    )

pub returns : goal.returns
returns c =
    let few = c.min-j-end.ensures in
    let many = c.as_chunks.ensures.front_len in
    let last : 6 * c.min-j-end.result ≡ 6 * min (cell_count c.args.cells.now) 128 = omega arith in
    record {
      keys = rw (← last) (stores_all c.loop-j.invariant.0 (omega arith));
      rings = rw (← last) (stores_all c.loop-j.invariant.1 (omega arith));
    }
