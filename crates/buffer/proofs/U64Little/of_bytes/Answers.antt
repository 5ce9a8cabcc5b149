-- `buffer::u64::of_bytes` meets its contract: the library reads the bytes that stand first. Assumes nothing.
use native.Mathlib.Omega.{arith}
use mathlib.Core.Path.{◌∙◌}
use Rattle.buffer.proofs.Numbers.{first_eight}
use Rattle.buffer.proofs.U64Little.of_bytes.Goals as goal

pub returns : goal.returns
returns c = c.from_le_bytes.ensures ∙ first_eight c.args.bytes (omega arith)
