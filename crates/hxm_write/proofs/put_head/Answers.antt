-- `hxm_write::put_head` meets its contract: the mark, the version and the two counts, one behind the other. Assumes nothing.
use native.Mathlib.Omega.{arith}
use Rattle.numbers.specs.Little.{bytes}
use Rattle.buffer.proofs.Writing.{wrote_then, puts_wrote}
use Rattle.hxm_write.proofs.put_head.Goals as goal

pub returns : goal.returns
unfolding bytes
returns c =
    let w1 = puts_wrote (omega arith) c.put_bytes-mark.ensures in
    let w2 = puts_wrote (omega (arith, w1.ends, w1.keeps)) c.put-numbered.ensures in
    let w3 = puts_wrote (omega (arith, w1.ends, w2.ends, w1.keeps, w2.keeps)) c.put-counted.ensures in
    let w4 = puts_wrote (omega (arith, w1.ends, w2.ends, w3.ends, w1.keeps, w2.keeps, w3.keeps)) c.put.ensures in
    wrote_then w1 (wrote_then w2 (wrote_then w3 w4))
