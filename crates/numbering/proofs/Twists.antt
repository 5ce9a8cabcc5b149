-- A mesh is twisted where two of its faces are; where none are, rings and nodes tell the same of its faces, so that all that is numbered is numbered alike, and
-- a face that two cells have is cut into the same quarters. Assumes nothing.
use Prim.Native.Nat.{ℕ, zero, suc, ◌+◌, ◌%◌, ◌<◌}
use native.Mathlib.Nat.{mod-lt, mod-mod, mod-eq_of_lt, eq-or-lt_of_le, le_of_suc-le-suc}
use native.Mathlib.Omega.{arith}
use mathlib.Core.Path.{◌≡◌, refl, sym, ap, ap₂, ◌∙◌}
use mathlib.Core.Bool.{Bool, true, false, ◌&&◌, ◌||◌, not, cond}
use mathlib.Core.List.{List, [], ◌∷◌, ◌++◌, map}
use mathlib.Core.Logic.{⊎_elim}
use lib.Dec.{T, eqb, eqb→eq}
use lib.ListN.{length, get_or}
use Rattle.numbers.specs.Rule.{tabulate, place_of}
use Rattle.numbers.specs.FirstMet.{among, apart}
use Rattle.numbers.proofs.Cases.{never, is_true, is_false, passes}
use Rattle.numbers.proofs.Every.{Every, every_append, every_front, every_behind, every_tabulate, every_at, every_then}
use Rattle.numbers.proofs.FirstMet.{place_agree, meet_agree, apart_none, none_apart}
use Rattle.numbers.proofs.Tests.{first, second, all_at_pair}
use Rattle.faults.specs.Faults.{node}
use Rattle.hex_children.specs.Children.{children}
use Rattle.numbering.specs.Interface.{child_face}
use Rattle.numbering.specs.Refinement.{Thing, edge, face, centre, same_nodes, turned, same_ring, same_by, same, twist, twisted}
use Rattle.numbering.specs.Refinement.{cell_count, face_nodes, edge_of, face_of, edges_of, faces_of, things_of, chain, things, given_by, number, number_by}
use Rattle.numbering.specs.Rings.{TwistedByPairs, KeptNumbers, GoodMeshesKeepTheirNumbers, quarter, NoTear}
use Rattle.numbering.proofs.Interface.{child_face_lem}
use Rattle.numbering.proofs.Same.{Round, round, by_members, same_nodes_lem, same_rings, same_by_lem, ring_nodes, same_things}
use Rattle.numbering.proofs.Steps.{chain_has, chain_found, tabulate_has, tabulate_found, keeps}

-- every member of a chain
module _ {A : Type 0} (P : A → Type 0) where
  pub every_chain : (m : ℕ) (f : ℕ → List A) → ((c : ℕ) → c < m → Every P (f c)) → Every P (chain m f)
  unfolding chain
  every_chain zero f h = tt
  every_chain (suc m) f h = every_append P (chain m f) (f m) (every_chain m f (λ c below. h c (omega arith))) (h m (omega arith))

  in_chain : (m : ℕ) (f : ℕ → List A) → Every P (chain m f) → (c : ℕ) → c < m → Every P (f c)
  unfolding chain
  in_chain zero f h c below = absurd (omega arith)
  in_chain (suc m) f h c below =
      ⊎_elim
      (λ (last : c ≡ m). rw last (every_behind P (chain m f) (f m) h))
      (λ (less : c < m). in_chain m f (every_front P (chain m f) (f m) h) c less)
      (eq-or-lt_of_le (le_of_suc-le-suc below))

-- ---- twisted faces
not_itself : (x : Thing) → twist x x ≡ false
not_itself x = rw ((same_by_lem same_nodes same_nodes_lem).self x, same_things.self x)

either_way : (x y : Thing) → twist x y ≡ twist y x
either_way x y = rw ((same_by_lem same_nodes same_nodes_lem).swap x y, same_things.swap x y)

not_true : (a : Bool) → not a ≡ false → a ≡ true
not_true true h = refl
not_true false h = never h

module _ (cells : List ℕ) where
  abbrev faces : List Thing
  faces = chain (cell_count cells) (faces_of cells)

  abbrev Pairs : Type 0
  Pairs = (c d f g : ℕ) → c < cell_count cells → d < cell_count cells → f < 6 → g < 6 → twist (face_of cells c f) (face_of cells d g) ≡ false

  no_pair : twisted cells ≡ false → Pairs
  unfolding twisted
  no_pair h c d f g hc hd hf hg =
      let none = apart_none twist not_itself either_way faces (not_true (apart twist faces) h) in
      let here = every_at (λ (x : Thing). among twist faces x ≡ false) 6 (face_of cells d)
      (in_chain (λ (x : Thing). among twist faces x ≡ false) (cell_count cells) (faces_of cells) none d hd) g hg in
      is_false (twist (face_of cells c f) (face_of cells d g)) (λ t.
      never (sym (chain_has twist (face_of cells d g) (cell_count cells) (faces_of cells) c hc
      (tabulate_has twist (face_of cells d g) 6 (face_of cells c) f hf t)) ∙ here))

  no_twist : Pairs → twisted cells ≡ false
  unfolding twisted
  no_twist pairs =
      ap not (none_apart twist not_itself either_way faces
      (every_chain (λ (x : Thing). among twist faces x ≡ false) (cell_count cells) (faces_of cells) (λ d hd.
      every_tabulate (λ (x : Thing). among twist faces x ≡ false) 6 (face_of cells d) (λ g hg.
      is_false (among twist faces (face_of cells d g)) (λ t.
      let (c, hc, in_Cell) = chain_found twist (face_of cells d g) (cell_count cells) (faces_of cells) t in
      let (f, hf, both) = tabulate_found twist (face_of cells d g) 6 (face_of cells c) in_Cell in
      never (sym both ∙ pairs c d f g hc hd hf hg))))))

pub twisted_by_pairs : TwistedByPairs
twisted_by_pairs cells = (no_pair cells, no_twist cells)

-- ---- one rule
ring_or_twist : (ring nodes : Bool) → (ring ≡ true → nodes ≡ true) → (nodes && not ring) ≡ false → ring ≡ nodes
ring_or_twist true nodes f h = sym (f refl)
ring_or_twist false true f h = never h
ring_or_twist false false f h = refl

map_alike : {A B : Type 0} (f g : A → B) (xs : List A) → Every (λ (x : A). f x ≡ g x) xs → map f xs ≡ map g xs
map_alike f g [] h = refl
map_alike f g (x ∷ xs) h = rw (h.0, map_alike f g xs h.1)

module _ (n : ℕ) (cells : List ℕ) (straight : twisted cells ≡ false) where
  one_rule : (c d f g : ℕ) → c < cell_count cells → d < cell_count cells → f < 6 → g < 6 →
      same_ring (face_nodes cells c f) (face_nodes cells d g) ≡ same_nodes (face_nodes cells c f) (face_nodes cells d g)
  one_rule c d f g hc hd hf hg =
      ring_or_twist (same_ring (face_nodes cells c f) (face_nodes cells d g)) (same_nodes (face_nodes cells c f) (face_nodes cells d g))
      (ring_nodes (face_nodes cells c f) (face_nodes cells d g) refl refl) (no_pair cells straight c d f g hc hd hf hg)

  -- a face of the mesh; all edges and centres are good
  abbrev OfMesh : Thing → Type 0
  OfMesh (edge ps) = Unit {0}
  OfMesh (face ps) = (c : ℕ) × (f : ℕ) × (c < cell_count cells) × (f < 6) × (ps ≡ face_nodes cells c f)
  OfMesh (centre c) = Unit {0}

  agree : (x y : Thing) → OfMesh x → OfMesh y → same x y ≡ same_by same_nodes x y
  agree (edge ps) (edge qs) h k = refl
  agree (edge ps) (face qs) h k = refl
  agree (edge ps) (centre d) h k = refl
  agree (face ps) (edge qs) h k = refl
  agree (face ps) (face qs) (c, f, hc, hf, e) (d, g, hd, hg, e') = rw (e, e') (one_rule c d f g hc hd hf hg)
  agree (face ps) (centre d) h k = refl
  agree (centre c) (edge qs) h k = refl
  agree (centre c) (face qs) h k = refl
  agree (centre c) (centre d) h k = refl

  edges_good : (c : ℕ) → Every OfMesh (edges_of cells c)
  edges_good c = every_tabulate OfMesh 12 (edge_of cells c) (λ e h. tt)

  faces_good : (c : ℕ) → c < cell_count cells → Every OfMesh (faces_of cells c)
  faces_good c below = every_tabulate OfMesh 6 (face_of cells c) (λ f h. (c, f, below, h, refl))

  all_good : Every OfMesh (things cells)
  all_good =
      every_chain OfMesh (cell_count cells) (things_of cells) (λ c below.
      every_append OfMesh (edges_of cells c) (faces_of cells c ++ (centre c ∷ [])) (edges_good c)
      (every_append OfMesh (faces_of cells c) (centre c ∷ []) (faces_good c below) (tt, tt)))

  given_alike : (given_by same_ring cells ≡ given_by same_nodes cells) × Every OfMesh (given_by same_ring cells)
  unfolding given_by
  given_alike = meet_agree same (same_by same_nodes) OfMesh agree [] (things cells) tt all_good

  number_alike : (x : Thing) → OfMesh x → number n cells x ≡ number_by same_nodes n cells x
  number_alike x h =
      ap (λ (p : ℕ). n + p) (place_agree same (same_by same_nodes) OfMesh agree (given_by same_ring cells) x given_alike.1 h
      ∙ ap (λ (l : List Thing). place_of (same_by same_nodes) l x) given_alike.0)

  numbers_alike : (xs : List Thing) → Every OfMesh xs → map (number n cells) xs ≡ map (number_by same_nodes n cells) xs
  numbers_alike xs h = map_alike (number n cells) (number_by same_nodes n cells) xs (every_then OfMesh _ number_alike xs h)

  pub kept_numbers : KeptNumbers n cells
  kept_numbers =
      record {
        one_rule = one_rule;
        same_next = ap (λ (l : List Thing). n + length l) given_alike.0;
        same_children = λ c below.
            let corners = tabulate 8 (node 8 cells c) in
            let nodes = number_by same_nodes n cells in
            ap₂ (λ (es fs : List ℕ). children corners es fs (number n cells (centre c)))
            (numbers_alike (edges_of cells c) (edges_good c)) (numbers_alike (faces_of cells c) (faces_good c below))
            ∙ ap (children corners (map nodes (edges_of cells c)) (map nodes (faces_of cells c))) (number_alike (centre c) tt);
      }

pub good_meshes_keep_their_numbers : GoodMeshesKeepTheirNumbers
good_meshes_keep_their_numbers = kept_numbers

-- ---- quarters
four_cases : (P : ℕ → Type 0) → P 0 → P 1 → P 2 → P 3 → (j : ℕ) → j < 4 → P j
four_cases P a b c d zero h = a
four_cases P a b c d (suc zero) h = b
four_cases P a b c d (suc (suc zero)) h = c
four_cases P a b c d (suc (suc (suc zero))) h = d
four_cases P a b c d (suc (suc (suc (suc j)))) h = absurd (omega arith)

four_alike : {a b c d a' b' c' d' : ℕ} → a ≡ a' → b ≡ b' → c ≡ c' → d ≡ d' → a ∷ b ∷ c ∷ d ∷ [] ≡ a' ∷ b' ∷ c' ∷ d' ∷ []
four_alike ha hb hc hd = rw (ha, hb, hc, hd)

child_quarters : (n : ℕ) (cells : List ℕ) (c f : ℕ) → f < 6 → (j : ℕ) → j < 4 →
    tabulate 4 (λ (k : ℕ). child_face n cells c f j (j + k)) ≡ quarter n cells (face_nodes cells c f) j
child_quarters n cells c f hf =
    let names : (j k : ℕ) → j < 4 → k < 4 → _ = λ j k hj hk. child_face_lem n cells c f j k hf hj hk in
    four_cases (λ (j : ℕ). tabulate 4 (λ (k : ℕ). child_face n cells c f j (j + k)) ≡ quarter n cells (face_nodes cells c f) j)
    (four_alike (names 0 0 (omega arith) (omega arith)) (names 0 1 (omega arith) (omega arith)) (names 0 2 (omega arith) (omega arith))
    (names 0 3 (omega arith) (omega arith)))
    (four_alike (names 1 1 (omega arith) (omega arith)) (names 1 2 (omega arith) (omega arith)) (names 1 3 (omega arith) (omega arith))
    (names 1 0 (omega arith) (omega arith)))
    (four_alike (names 2 2 (omega arith) (omega arith)) (names 2 3 (omega arith) (omega arith)) (names 2 0 (omega arith) (omega arith))
    (names 2 1 (omega arith) (omega arith)))
    (four_alike (names 3 3 (omega arith) (omega arith)) (names 3 0 (omega arith) (omega arith)) (names 3 1 (omega arith) (omega arith))
    (names 3 2 (omega arith) (omega arith)))

-- the neighbours of a node of a ring that is gone round: forward they keep their sides, back they change them
abbrev neighbour : Bool → ℕ → ℕ → ℕ → ℕ → Bool
neighbour back here there s j = eqb (turned back s ((j + here) % 4) % 4) ((turned back s j % 4 + there) % 4)

abbrev neighbours : Bool → ℕ → ℕ → Bool
neighbours back s j = neighbour back 1 (cond back 3 1) s j && neighbour back 3 (cond back 1 3) s j

beside : (back : Bool) (s j : ℕ) → s < 4 → j < 4 → T (neighbours back s j)
beside true = all_at_pair 4 4 (neighbours true) tt
beside false = all_at_pair 4 4 (neighbours false) tt

or_swapped : (a b c d : Bool) → (a || (b || (c || (d || false)))) ≡ (a || (d || (c || (b || false))))
or_swapped true b c d = refl
or_swapped false true c true = refl
or_swapped false true true false = refl
or_swapped false true false false = refl
or_swapped false false true true = refl
or_swapped false false true false = refl
or_swapped false false false true = refl
or_swapped false false false false = refl

either_order : (back : Bool) (a b c d : ℕ) → same_nodes (a ∷ cond back d b ∷ c ∷ cond back b d ∷ []) (a ∷ b ∷ c ∷ d ∷ []) ≡ true
either_order true a b c d = by_members (a ∷ d ∷ c ∷ b ∷ []) (a ∷ b ∷ c ∷ d ∷ []) (λ x. or_swapped (eqb a x) (eqb d x) (eqb c x) (eqb b x))
either_order false a b c d = same_nodes_lem.self (a ∷ b ∷ c ∷ d ∷ [])

pick : (back : Bool) (f : ℕ → ℕ) (x y : ℕ) → f (cond back x y) ≡ cond back (f x) (f y)
pick true f x y = refl
pick false f x y = refl

-- Two faces that are one: node j of the first is node `there j` of the second, and so are the quarters there.
module _ (n : ℕ) (cells ps qs : List ℕ) (one : same_ring ps qs ≡ true) where
  abbrev turn : Round ps qs
  turn = round ps qs one

  abbrev back : Bool
  back = turn.back

  abbrev there : ℕ → ℕ
  there j = turned back turn.start j % 4

  node_there : (j : ℕ) → get_or ps (j % 4) 0 ≡ get_or qs (there (j % 4)) 0
  node_there j = turn.meets (j % 4) (mod-lt j (omega arith))

  middle_of : ℕ → ℕ → ℕ
  middle_of a b = number n cells (edge (a ∷ b ∷ []))

  one_middle : number n cells (face ps) ≡ number n cells (face qs)
  one_middle = keeps same_ring same_rings n cells (face ps) (face qs) one

  same_quarter : (j : ℕ) → j < 4 → same_nodes (quarter n cells ps j) (quarter n cells qs (there j)) ≡ true
  unfolding middle_of
  same_quarter j h =
      let s = turn.start in
      let k = there j in
      let q : ℕ → ℕ = λ i. get_or qs (i % 4) 0 in
      let side : ℕ → ℕ = λ i. middle_of (q k) (q (k + i)) in
      let ahead = neighbour back 1 (cond back 3 1) s j in
      let behind = neighbour back 3 (cond back 1 3) s j in
      let sides = beside back s j turn.below h in
      let here : get_or ps (j % 4) 0 ≡ q k = node_there j ∙ ap (λ (i : ℕ). get_or qs i 0) (rw (mod-eq_of_lt h, mod-mod)) in
      let next : get_or ps ((j + 1) % 4) 0 ≡ q (k + cond back 3 1) = node_there (j + 1) ∙ ap (λ (i : ℕ). get_or qs i 0) (eqb→eq _ _ (first ahead behind sides)) in
      let last : get_or ps ((j + 3) % 4) 0 ≡ q (k + cond back 1 3) = node_there (j + 3) ∙ ap (λ (i : ℕ). get_or qs i 0) (eqb→eq _ _ (second ahead behind sides)) in
      ap (λ (l : List ℕ). same_nodes l (quarter n cells qs k))
      (four_alike here (ap₂ middle_of here next ∙ pick back side 3 1) one_middle (ap₂ middle_of here last ∙ pick back side 1 3))
      ∙ either_order back (q k) (side 1) (number n cells (face qs)) (side 3)

pub no_tear : NoTear
no_tear =
    record {
      quarters = λ n cells c f j hf. child_quarters n cells c f hf j;
      together = λ n cells c d f g straight hc hd hf hg t.
          let ps = face_nodes cells c f in
          let qs = face_nodes cells d g in
          let one = one_rule n cells straight c d f g hc hd hf hg ∙ is_true (same_nodes ps qs) t in (
            one_middle n cells ps qs one,
            (λ j h. (there n cells ps qs one j, mod-lt _ (omega arith), passes _ (same_quarter n cells ps qs one j h))),
          );
    }
