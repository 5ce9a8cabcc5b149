-- `buffer::u32::of_bytes` meets its contract: the library reads the bytes that stand first. Assumes nothing.
use native.Mathlib.Omega.{arith}
use mathlib.Core.Path.{◌∙◌}
use Rattle.buffer.proofs.Numbers.{first_four}
use Rattle.buffer.proofs.U32Little.of_bytes.Goals as goal

pub returns : goal.returns
returns c = c.from_le_bytes.ensures ∙ first_four c.args.bytes (omega arith)
