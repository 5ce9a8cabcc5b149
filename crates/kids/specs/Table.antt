-- Lines of numbers. Definitions only.
use Rattle.std.specs.Prelude.{ℕ, ◌+◌, ◌*◌, cond, List, [], ◌∷◌, ◌++◌, eqb, get_or}
use Rattle.buffer.specs.Put.{joined}
use Rattle.text.specs.Text.{decimal, newline, space}

-- w numbers of a list, from `from` on: a space between any two, and a newline behind the last
abbrev pub behind : ℕ → ℕ → ℕ
behind j w = cond (eqb (j + 1) w) newline space

abbrev pub field : ℕ → List ℕ → ℕ → ℕ → List ℕ
field w numbers from j = decimal (get_or numbers (from + j) 0) ++ (behind j w ∷ [])

abbrev pub line : ℕ → List ℕ → ℕ → List ℕ
line w numbers from = joined w (field w numbers from)

-- n lines of w numbers each
abbrev pub table : ℕ → List ℕ → ℕ → List ℕ
table w numbers n = joined n (λ (i : ℕ). line w numbers (w * i))
