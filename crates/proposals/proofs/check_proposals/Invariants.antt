-- `proposals::check_proposals`: before turn i the first i numbers are written over by the judgements, the zeros among these are counted, and each keeps
-- both halves of demand 3. Assumes nothing.
use Prim.Native.Nat.{ℕ, ◌≤◌, ◌<◌}
use mathlib.Core.Path.{◌≡◌}
use mathlib.Core.List.{map}
use lib.ListN.{take}
use Rattle.proposals.specs.Demand.{proposal}
use Rattle.proposals.specs.Judgements.{judgement, zeros}
use Rattle.proposals.proofs.Demand.{Owed}
use Rattle.proposals.proofs.Written.{overwritten}
use Rattle.proposals.proofs.check_proposals.Given as goal

abbrev pub invariant-loop-i : goal.invariant-loop-i
invariant-loop-i l =
    record {
      within : l.i ≤ l.n;
      written : l.out ≡ overwritten (map (judgement l.corners) l.list) l.initial.out l.i;
      counted : l.accepted ≡ zeros (take l.i (map (judgement l.corners) l.list));
      kept : (k : ℕ) → k < l.i → Owed l.corners (proposal l.list k) (judgement l.corners (proposal l.list k));
    }
