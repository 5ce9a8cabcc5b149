-- What the program `hexvol` prints for a file: document 02, 3/12. Definitions and claims only.
use Rattle.std.specs.Prelude.{ℕ, ◌≡◌, cond, List, [], ◌∷◌, ◌++◌, eqb, ℤ, pos, length, get_or, take}
use Rattle.answer.specs.Answer.{answered, and_then}
use Rattle.buffer.specs.Put.{joined}
use Rattle.text.specs.Text.{decimal, signed_decimal, newline, space, shown}
use Rattle.volume_report.specs.Report.{Report, report_of}

-- "total ", "first " and "none"
abbrev pub total_word : List ℕ
total_word = 116 ∷ 111 ∷ 116 ∷ 97 ∷ 108 ∷ 32 ∷ []

abbrev pub first_word : List ℕ
first_word = 102 ∷ 105 ∷ 114 ∷ 115 ∷ 116 ∷ 32 ∷ []

abbrev pub none_word : List ℕ
none_word = 110 ∷ 111 ∷ 110 ∷ 101 ∷ []

-- "one line a cell": its number, counted from 0, and its volume
abbrev pub cell_line : ℕ → ℤ → List ℕ
cell_line k volume = decimal k ++ (space ∷ (signed_decimal volume ++ (newline ∷ [])))

abbrev pub cell_lines : List ℤ → List ℕ
cell_lines volumes = joined (length volumes) (λ (k : ℕ). cell_line k (get_or volumes k (pos 0)))

-- "then two more": `total 1728`
abbrev pub total_line : ℤ → List ℕ
total_line total = total_word ++ (signed_decimal total ++ (newline ∷ []))

-- and `first none`, where the first cell whose volume is not above zero would be the one behind the last
abbrev pub cell_or_none : ℕ → ℕ → List ℕ
cell_or_none cells first = cond (eqb first cells) none_word (decimal first)

abbrev pub first_line : ℕ → ℕ → List ℕ
first_line cells first = first_word ++ (cell_or_none cells first ++ (newline ∷ []))

abbrev pub report_text : Report → List ℕ
report_text r = cell_lines r.volumes ++ (total_line r.total ++ first_line (length r.volumes) r.first)

-- what is printed for the bytes of a file
unfoldable pub printed : List ℕ → List ℕ
printed s = shown (and_then (report_of s) (λ (r : Report). answered (report_text r)))

-- Of a file of whatever length the first 28,686 bytes decide what is printed.
abbrev pub EnoughToPrint : Type 0
EnoughToPrint = (s : List ℕ) → printed (take 28686 s) ≡ printed s
