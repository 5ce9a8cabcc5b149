-- How the refinement's code keeps an edge or a face: its node numbers in rising order are the digits of one number, its key, and a face's ring is told by the
-- node opposite the smallest. No promise to a user cites these. Definitions and claims only.
use Rattle.std.specs.Prelude.{ℕ, ◌+◌, ◌*◌, ◌/◌, ◌%◌, ◌^◌, ◌<◌, min, max, ◌≡◌, true, cond, List, [], ◌∷◌, ◌++◌, ◌↔◌, ◌⊎◌, T, eqb, ltb, length, get_or, drop}
use Rattle.numbers.specs.Rule.{tabulate}
use Rattle.numbers.specs.FirstMet.{among, apart}
use Rattle.numbering.specs.Refinement.{same_nodes, same_ring, edge_nodes, face_nodes}
use Rattle.numbering.specs.Rings.{Four}

abbrev pub insert : ℕ → List ℕ → List ℕ
insert x [] = x ∷ []
insert x (y ∷ ys) = cond (ltb x y) (x ∷ y ∷ ys) (y ∷ insert x ys)

abbrev pub rising : List ℕ → List ℕ
rising [] = []
rising (x ∷ xs) = insert x (rising xs)

-- in base 1,024, which no node number reaches, the first digit highest
abbrev pub packed : List ℕ → ℕ
packed [] = 0
packed (x ∷ xs) = x * 1024 ^ length xs + packed xs

unfoldable pub key : List ℕ → ℕ
key ps = packed (rising ps)

-- which node of a ring of four stands opposite the smallest: the other end of the diagonal that the smallest is on
abbrev pub opposite : List ℕ → ℕ
opposite ps =
    let at : ℕ → ℕ = λ j. get_or ps j 0 in
    cond (ltb (min (at 0) (at 2)) (min (at 1) (at 3))) (max (at 0) (at 2)) (max (at 1) (at 3))

-- the keys of the edges, and of the faces, cell after cell, and the nodes opposite the smallest ones
abbrev pub edge_key : List ℕ → ℕ → ℕ
edge_key cells j = key (edge_nodes cells (j / 12) (j % 12))

abbrev pub face_key : List ℕ → ℕ → ℕ
face_key cells j = key (face_nodes cells (j / 6) (j % 6))

abbrev pub face_ring : List ℕ → ℕ → ℕ
face_ring cells j = opposite (face_nodes cells (j / 6) (j % 6))

-- a list with the first m keys in it; behind them stands what stood there
abbrev pub keys_in : List ℕ → ℕ → (ℕ → ℕ) → List ℕ
keys_in list m key_at = tabulate m key_at ++ drop m list

-- different node numbers
pub record Nodes (ps : List ℕ) : Type 0 where
  pub small : (x : ℕ) → among eqb ps x ≡ true → x < 1024
  pub differ : T (apart eqb ps)

-- So pairs of nodes stand in the order of their numbers: by the first node, and by the second where the first is the same.
abbrev pub PairsInOrder : Type 0
PairsInOrder =
    (a b c d : ℕ) → b < 1024 → d < 1024 → (packed (a ∷ b ∷ []) < packed (c ∷ d ∷ [])) ↔ ((a < c) ⊎ ((a ≡ c) × (b < d)))

-- Two edges, or two faces, have one key exactly when they have the same nodes.
abbrev pub KeysTell : Type 0
KeysTell = (ps qs : List ℕ) → length ps ≡ length qs → Nodes ps → Nodes qs → (key ps ≡ key qs) ↔ (same_nodes ps qs ≡ true)

-- Two faces that have the same nodes have the same ring exactly when the same node stands opposite the smallest.
abbrev pub RingsTell : Type 0
RingsTell = (ps qs : List ℕ) → Four ps → Four qs → same_nodes ps qs ≡ true → (opposite ps ≡ opposite qs) ↔ (same_ring ps qs ≡ true)
