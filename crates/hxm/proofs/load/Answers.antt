-- `hxm::load` meets its contract: what is read is a copy of the bytes that stand there, with zeros behind them. Assumes nothing.
use Prim.Native.Nat.{◌+◌, ◌-◌}
use native.Mathlib.Omega.{arith}
use mathlib.Core.Path.{◌≡◌, ◌∙◌}
use Rattle.hxm.proofs.Loaded.{number_copied}
use Rattle.hxm.proofs.load.Goals as goal

pub returns : goal.returns
returns g c =
    let w = g.T.Little.WIDTH in
    let size : c.args.at + c.WIDTH-2.result - c.args.at ≡ w = omega (arith, c.WIDTH-2.ensures) in
    c.of_bytes.ensures ∙ number_copied c.args.bytes.now c.copy_from_slice.new.self _ w c.args.at c.requires (rw size at c.copy_from_slice.ensures.after)
