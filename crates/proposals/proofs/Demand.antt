-- Each record of a judged list keeps both halves of demand 3 with the number that is left for it, where its own judgement does. Assumes nothing.
use Prim.Native.Nat.{ℕ, ◌+◌, ◌<◌}
use mathlib.Core.Path.{◌≡◌, subst}
use mathlib.Core.List.{List}
use lib.ListN.{length, get_or}
use lib.Ieee.{Float}
use borrow.Author.Count.{below_more}
use Rattle.std.proofs.lemmas.List.{get_or_default}
use Rattle.proposals.specs.Demand.{none, proposal, ZeroIsNear, NearIsZero}
use Rattle.proposals.specs.Judgements.{judgement}
use Rattle.proposals.specs.declared.Proposal.{Proposal}

-- what a record and its number owe
abbrev pub Owed : List Float → Proposal → ℕ → Type 0
Owed corners p number = ZeroIsNear corners p number × NearIsZero corners p number

-- what a turn's number owes is what its judgement owes, so that one record more keeps both halves
pub one_more_kept : (corners : List Float) (list : List Proposal) (i : ℕ) (d : Proposal) (number : ℕ) → i < length list
    → number ≡ judgement corners (get_or list i d) → ZeroIsNear corners (get_or list i d) number → NearIsZero corners (get_or list i d) number
    → ((k : ℕ) → k < i → Owed corners (proposal list k) (judgement corners (proposal list k)))
    → (k : ℕ) → k < i + 1 → Owed corners (proposal list k) (judgement corners (proposal list k))
one_more_kept corners list i d number inside same sound complete before =
    below_more (λ (k : ℕ). Owed corners (proposal list k) (judgement corners (proposal list k))) i before
    (subst (λ (p : Proposal). Owed corners p (judgement corners p)) (get_or_default list i d none inside)
    (subst (Owed corners (get_or list i d)) same (sound, complete)))
