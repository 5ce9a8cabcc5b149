-- A list of proposals, each judged by the distance check against one cell. Definitions and claims only.
use Rattle.std.specs.Prelude.{ℕ, cond, List, map, eqb, ltb, Float, length}
use Rattle.numbers.specs.Rule.{sum_over}
use Rattle.answer.specs.Answer.{Answer, answered, refused, and_then, number_of}
use Rattle.cell.specs.Newton.{coords}
use Rattle.probe.specs.Check.{checked}
use Rattle.proposals.specs.declared.Proposal.{Proposal}

-- "it writes 0 or the refusal number per record", "each a coordinate and a tolerance": the check's
unfoldable pub judgement : List Float → Proposal → ℕ
judgement corners p = number_of (checked corners (coords p.at) p.tolerance)

-- "Proposal list: 7, 8, then per record": n records, "at most 256", with room for so many numbers, unless "an output too short"
abbrev pub unless_refused : {A : Type 0} → ℕ → ℕ → A → Answer A
unless_refused n room a = cond (ltb 256 n) (refused 7) (cond (ltb room n) (refused 8) (answered a))

-- one judgement for each record, in order
abbrev pub judgements : List Float → List Proposal → ℕ → Answer (List ℕ)
judgements corners list room = unless_refused (length list) room (map (judgement corners) list)

-- "and returns how many zeros it wrote"
abbrev pub zeros : List ℕ → ℕ
zeros js = sum_over (λ (j : ℕ). cond (eqb j 0) 1 0) js

abbrev pub zeros_in : Answer (List ℕ) → Answer ℕ
zeros_in found = and_then found (λ (js : List ℕ). answered (zeros js))
