-- What the search, and the numbering of one cell's edges or faces, owe whatever the keys stand for. The code numbers faces by their nodes, as document
-- 01 has it, and then looks whether those with one number have one ring. No public promise cites these. Definitions only.
use Rattle.std.specs.Prelude.{ℕ, Option, Some, None, ◌+◌, ◌*◌, ◌-◌, ◌/◌, ◌%◌, ◌≤◌, ◌<◌, ◌≡◌, Bool, cond, not, List, ◌++◌, eqb, ltb, get_or, take, drop}
use Rattle.numbers.specs.Rule.{tabulate, count, place_of}
use Rattle.numbering.specs.Refinement.{same_nodes, centre, edge_of, face_of, number_by}

-- one of the first m keys is k
abbrev pub is_old : List ℕ → ℕ → ℕ → Bool
is_old keys m k = ltb (place_of eqb keys k) m

-- the number beside the first key that is k
abbrev pub number_beside : List ℕ → List ℕ → ℕ → ℕ
number_beside keys numbers k = get_or numbers (place_of eqb keys k) 0

-- "The search over earlier cells stops at the first match": what it finds among the first m keys
abbrev pub found_in : List ℕ → List ℕ → ℕ → ℕ → Option ℕ
found_in keys numbers m k = cond (is_old keys m k) (Some (number_beside keys numbers k)) None

-- how many of the i keys from m on are none of the first m
abbrev pub new_from : List ℕ → ℕ → ℕ → ℕ
new_from keys m i = count i (λ (h : ℕ). not (is_old keys m (get_or keys (m + h) 0)))

-- The number of key m + i, where the first m keys have theirs and `first` is the next: that beside the first equal key, if one of the m is equal, and
-- otherwise `first` plus how many of the keys from m up to it are new.
abbrev pub number_of : List ℕ → List ℕ → ℕ → ℕ → ℕ → ℕ
number_of keys numbers m first i =
    let k = get_or keys (m + i) 0 in cond (is_old keys m k) (number_beside keys numbers k) (first + new_from keys m i)

-- the list of numbers with those of the w keys from m on
unfoldable pub numbered : List ℕ → List ℕ → ℕ → ℕ → ℕ → List ℕ
numbered keys numbers m first w = take m numbers ++ (tabulate w (number_of keys numbers m first) ++ drop (m + w) numbers)

-- the first m numbers of a list are those of a rule
abbrev pub Agrees : List ℕ → ℕ → (ℕ → ℕ) → Type 0
Agrees numbers m value = (j : ℕ) → j < m → get_or numbers j 0 ≡ value j

-- the numbers of the edges, of the faces and of the centres, cell after cell
abbrev pub edge_number : ℕ → List ℕ → ℕ → ℕ
edge_number n cells j = number_by same_nodes n cells (edge_of cells (j / 12) (j % 12))

abbrev pub face_number : ℕ → List ℕ → ℕ → ℕ
face_number n cells j = number_by same_nodes n cells (face_of cells (j / 6) (j % 6))

abbrev pub centre_number : ℕ → List ℕ → ℕ → ℕ
centre_number n cells c = number_by same_nodes n cells (centre c)

-- the lists hold the numbers of the first c cells
pub record Standing (n : ℕ) (cells edges faces centers : List ℕ) (c : ℕ) : Type 0 where
  pub of_edges : Agrees edges (12 * c) (edge_number n cells)
  pub of_faces : Agrees faces (6 * c) (face_number n cells)
  pub of_centres : Agrees centers c (centre_number n cells)

-- the first m of these numbers are at most 2,432 from the first one up, as many as 128 cells have edges, faces and centres
abbrev pub Between : ℕ → List ℕ → ℕ → Type 0
Between first numbers m = (j : ℕ) → j < m → (first ≤ get_or numbers j 0) × (get_or numbers j 0 < first + 2432)

-- what stands in a list by number at the number of face j
abbrev pub by_number : ℕ → List ℕ → List ℕ → ℕ → ℕ
by_number first faces list j = get_or list (get_or faces j 0 - first) 0

-- for the number of each of the first m faces, the ring of one of them that has it
abbrev pub RingsByNumber : ℕ → List ℕ → List ℕ → ℕ → List ℕ → Type 0
RingsByNumber first faces rings m list =
    (j : ℕ) → j < m → (k : ℕ) × (k < m) × (get_or faces k 0 ≡ get_or faces j 0) × (by_number first faces list j ≡ get_or rings k 0)
