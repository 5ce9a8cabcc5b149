-- `keys::face_key` meets its contract: five exchanges put the four nodes in rising order. Assumes nothing.
use native.Mathlib.Omega.{arith}
use mathlib.Core.Path.{◌∙◌}
use Rattle.keys.proofs.Keys.{ring_key}
use Rattle.keys.proofs.face_key.Goals as goal

pub returns : goal.returns
returns c =
    c.digits.ensures
    ∙ simp (
      c.max-2.ensures,
      c.max.ensures,
      c.min-2.ensures,
      c.min.ensures,
      c.min-k.ensures,
      c.max-m.ensures,
      c.max-s.ensures,
      c.min-r.ensures,
      c.max-q.ensures,
      c.min-p.ensures,
    ) (ring_key c.args.ring (omega arith))
