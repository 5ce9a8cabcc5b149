-- Demand 3 for each record of a list that was judged: what a 0 is worth, and which places have one. Definitions only.
use Rattle.std.specs.Prelude.{ℕ, ◌<◌, ◌≡◌, List, T, Float, length, get_or}
use Rattle.std.specs.Float.{nan}
use Rattle.cell.specs.Newton.{coords}
use Rattle.hex_locate.specs.Locate.{inside}
use Rattle.probe.specs.Demand.{AcceptedIsNear, NearIsAccepted}
use Rattle.proposals.specs.declared.Proposal.{Proposal}

-- record i of a list; behind its end stands one that no check accepts
abbrev pub none : Proposal
none = record { at = record { x = nan; y = nan; z = nan }; tolerance = nan }

abbrev pub proposal : List Proposal → ℕ → Proposal
proposal list i = get_or list i none

-- both halves of one record, of which 0 is the acceptance
abbrev pub ZeroIsNear : List Float → Proposal → ℕ → Type 0
ZeroIsNear corners p number = AcceptedIsNear (number ≡ 0) corners (coords p.at) p.tolerance

abbrev pub NearIsZero : List Float → Proposal → ℕ → Type 0
NearIsZero corners p number = T (inside (coords p.at)) → NearIsAccepted (number ≡ 0) corners (coords p.at) p.tolerance

-- of each record, whose number stands at its own place in the output
abbrev pub Each : (List Float → Proposal → ℕ → Type 0) → List Float → List Proposal → List ℕ → Type 0
Each half corners list out = (i : ℕ) → i < length list → half corners (proposal list i) (get_or out i 0)
