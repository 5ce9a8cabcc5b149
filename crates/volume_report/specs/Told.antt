-- What a report is told as beside its list. Definitions and claims only.
use Rattle.std.specs.Prelude.{ℕ, List, [], ◌∷◌, ℤ, length}
use Rattle.answer.specs.Answer.{Answer, answered, and_then}
use Rattle.volume_report.specs.Report.{Report}
use Rattle.volume_report.specs.declared.Summary.{Summary}

abbrev pub summary : Report → Summary
summary r = record { total = r.total; cells = length r.volumes; first = r.first }

abbrev pub summary_of : Answer Report → Answer Summary
summary_of found = and_then found (λ (r : Report). answered (summary r))

-- as C has it: the total, and the two counts
abbrev pub total_told : Answer Summary → Answer ℤ
total_told found = and_then found (λ (r : Summary). answered r.total)

abbrev pub counts_told : Answer Summary → Answer (List ℕ)
counts_told found = and_then found (λ (r : Summary). answered (r.cells ∷ r.first ∷ []))
