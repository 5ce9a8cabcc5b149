-- `buffer::eight_at` meets its contract: what is there is copied, and zeros stand behind it. Assumes nothing.
use Prim.Native.Nat.{ℕ, ◌+◌, ◌-◌, min}
use native.Mathlib.Omega.{arith}
use mathlib.Core.Path.{◌≡◌, ◌∙◌, ap}
use lib.ListN.{length, take, drop, length-drop}
use Rattle.std.proofs.lemmas.List.{take_min, drop_min, drop-replicate}
use Rattle.buffer.proofs.Numbers.{eight_copied}
use Rattle.buffer.proofs.eight_at.Goals as goal

pub returns : goal.returns
returns c width few =
    let s = c.args.bytes.now in
    let from = c.min-from.result in
    let size = c.min-size.result in
    let at = c.args.at in
    let rest : drop from s ≡ drop at s = ap (λ (i : ℕ). drop i s) c.min-from.ensures ∙ drop_min at s in
    let most : size ≡ min 8 (length (drop at s)) = rw length-drop (omega (arith, c.min-size.ensures, c.min-from.ensures)) in
    let room : from + size - from ≡ size = omega arith in
    let copied : c.copy_from_slice.new.self ≡ take 8 (drop at s) =
    rw (room, rest) at c.copy_from_slice.ensures.after ∙ ap (λ (i : ℕ). take i (drop at s)) most ∙ take_min 8 (drop at s)
    in
    rw drop-replicate (eight_copied s c.copy_from_slice.new.self at width (8 - size) few copied)
