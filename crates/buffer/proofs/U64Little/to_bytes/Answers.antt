-- `buffer::u64::to_bytes` meets its contract: the bytes that the library gives are the number's. Assumes nothing.
use mathlib.Core.Path.{◌∙◌}
use Rattle.buffer.proofs.Numbers.{bytes_given}
use Rattle.buffer.proofs.U64Little.to_bytes.Goals as goal

pub returns : goal.returns
returns c = c.to_le_bytes.ensures ∙ bytes_given 8 c.args.self
