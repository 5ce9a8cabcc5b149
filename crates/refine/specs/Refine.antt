-- What a refinement answers and leaves in the output. Document 01, "Refinement", with document 02, 2/12. Definitions and claims only.
use Rattle.std.specs.Prelude.{ℕ, ◌*◌, ◌%◌, ◌≡◌, false, cond, not, List, eqb, ltb, length}
use Rattle.answer.specs.Answer.{Answer, answered, refused, and_then}
use Rattle.faults.specs.Faults.{first_fault}
use Rattle.numbering.specs.Refinement.{cell_count, chain, twisted, next, child_numbers}

-- "Refinement: 7 (n, then list longer than 1,024 numbers), 8 (list, then output), then cell by cell 9 before 10." "14, twisted face, after all cells have
-- passed 9 and 10" "The answer is the next free number."
unfoldable pub refined : ℕ → List ℕ → ℕ → Answer ℕ
refined n cells room =
    cond (ltb 1024 n) (refused 7)
    (cond (ltb 1024 (length cells)) (refused 7)
    (cond (not (eqb (length cells % 8) 0)) (refused 8)
    (cond (ltb room (64 * cell_count cells)) (refused 8)
    (cond (not (eqb (first_fault n 8 cells) 0)) (refused (first_fault n 8 cells))
    (cond (twisted cells) (refused 14)
    (answered (next n cells)))))))

-- "Each cell's 64 child numbers go into the output part that starts at 64 times the cell's place"
abbrev pub all_children : ℕ → List ℕ → List ℕ
all_children n cells = chain (cell_count cells) (child_numbers n cells)

-- what a refinement with this answer writes
abbrev pub children_in : Answer ℕ → ℕ → List ℕ → Answer (List ℕ)
children_in found n cells = and_then found (λ (free : ℕ). answered (all_children n cells))

-- An accepted mesh has no twisted face, so that numbering's `NoTear` and `GoodMeshesKeepTheirNumbers` speak of it.
abbrev pub AcceptedIsStraight : Type 0
AcceptedIsStraight = (n : ℕ) (cells : List ℕ) (room free : ℕ) → refined n cells room ≡ answered free → twisted cells ≡ false
