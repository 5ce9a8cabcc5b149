-- `refine::rings_differ` meets its contract: the faces passed have the rings that are kept. Assumes nothing.
use Prim.Native.Nat.{ℕ}
use native.Mathlib.Omega.{arith}
use mathlib.Core.Path.{sym, ap}
use mathlib.Core.Bool.{not}
use borrow.Author.Tests.{ne_eqb}
use lib.Dec.{eqb}
use lib.ListN.{length, get_or}
use Rattle.numbers.proofs.All.{all_miss}
use Rattle.refine.specs.Search.{by_number}
use Rattle.refine.proofs.rings_differ.Goals as goal

pub returns-then-kept-face : goal.returns-then-kept-face
returns-then-kept-face c =
    let args = c.args in
    ap not (sym (all_miss (λ (i : ℕ). eqb (by_number args.first args.faces.now args.kept.now i) (get_or args.rings.now i 0)) c.loop-j.j
    (length args.faces.now) (omega arith) (ne_eqb _ _ c.if-kept-face.true)))
