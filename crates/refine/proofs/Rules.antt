-- The numbers of a cell's edges, of its faces and of its centre, faces by their nodes, keep to the rule that the code goes by: keys tell edges and faces apart,
-- and what is among the things met before is an edge or a face of an earlier cell, since a cell's own differ. Assumes nothing.
use Prim.Native.Nat.{ℕ, ◌+◌, ◌*◌, ◌/◌, ◌%◌, ◌≤◌, ◌<◌}
use native.Mathlib.Nat.{mod-lt}
use native.Mathlib.Numerals.{add-one}
use native.Mathlib.Omega.{arith}
use mathlib.Core.Path.{◌≡◌, refl, sym, ap, ◌∙◌}
use mathlib.Core.Bool.{Bool, true, false, ◌||◌, or-false}
use mathlib.Core.List.{List, [], ◌∷◌, ◌++◌, append_assoc, append-nil}
use mathlib.Core.Logic.{◌↔◌}
use borrow.Author.Tests.{eqb-true}
use lib.Dec.{eqb}
use lib.ListN.{length, get_or}
use Rattle.numbers.specs.Rule.{tabulate}
use Rattle.numbers.proofs.Cases.{is_false}
use Rattle.faults.specs.Faults.{node, Sound}
use Rattle.numbers.specs.FirstMet.{among}
use Rattle.numbering.specs.Refinement.{Thing, edge, face, centre, same_nodes, same_by, cell_count, edge_nodes, face_nodes}
use Rattle.numbering.specs.Refinement.{edge_of, face_of, edges_of, faces_of, things_of, chain, things_to, things, number_by}
use Rattle.keys.specs.Keys.{Nodes, key, edge_key, face_key}
use Rattle.numbers.proofs.FirstMet.{among_append}
use Rattle.numbering.proofs.Same.{same_nodes_lem, same_by_lem}
use Rattle.keys.proofs.Keys.{key_nodes, keys_tell}
use Rattle.numbering.proofs.Cells.{edge_nodes_lem, face_nodes_lem, own_parts_differ, own_faces_differ}
use Rattle.numbering.proofs.Steps.{chain_past, chain_has, chain_found, tabulate_has, tabulate_found, next_after, known, new, keeps}
use Rattle.refine.specs.Search.{Agrees, edge_number, face_number}
use Rattle.refine.proofs.Places.{Missing}
use Rattle.numbers.proofs.Slots.{slot_row, slot_place, row_of, row_within}

abbrev same : Thing → Thing → Bool
same = same_by same_nodes

-- A numbering of keys, `value j` of key j, keeps to the rule at the w keys from m on, which are one cell's: a key that an earlier cell has keeps its number,
-- and another gets the next, which is `before i` at key m + i.
pub record Rule (keys : List ℕ) (m w : ℕ) (value before : ℕ → ℕ) : Type 0 where
  pub old : (i j : ℕ) → i < w → j < m → get_or keys j 0 ≡ get_or keys (m + i) 0 → (value (m + i) ≡ value j) × (before (i + 1) ≡ before i)
  pub new : (i : ℕ) → i < w → Missing keys m (get_or keys (m + i) 0) → (value (m + i) ≡ before i) × (before (i + 1) ≡ before i + 1)

-- What edges and faces have in common: w of them in each cell, each made of its nodes.
pub record Family (cells : List ℕ) (w : ℕ) (make : List ℕ → Thing) (nodes : ℕ → ℕ → List ℕ) : Type 0 where
  pub some : 0 < w
  pub alike : (ps qs : List ℕ) → same (make ps) (make qs) ≡ same_nodes ps qs
  pub only : (d : ℕ) (ps : List ℕ) → among same (things_of cells d) (make ps) ≡ among same (tabulate w (λ (i : ℕ). make (nodes d i))) (make ps)
  pub long : (d i e k : ℕ) → length (nodes d i) ≡ length (nodes e k)
  pub good : (d i : ℕ) → d < cell_count cells → i < w → Nodes (nodes d i)
  pub differ : (d i k : ℕ) → d < cell_count cells → i < k → k < w → same (make (nodes d i)) (make (nodes d k)) ≡ false

abbrev pub Keyed : List ℕ → List ℕ → ℕ → (ℕ → ℕ → List ℕ) → Type 0
Keyed keys cells w nodes = Agrees keys (w * cell_count cells) (λ (j : ℕ). key (nodes (j / w) (j % w)))

regroup : (a f own row later rest : List Thing) → f ≡ own ++ (row ++ later) → a ++ (f ++ rest) ≡ (a ++ own) ++ (row ++ (later ++ rest))
regroup a f own row later rest e = rw (e, append_assoc own (row ++ later) rest, append_assoc row later rest, append_assoc a own (row ++ (later ++ rest)))

-- One family in cell c: `own` is what the cell has before it, of the other one, and `later` what it has behind it.
module _ (n : ℕ) (cells : List ℕ) (w : ℕ) (make : List ℕ → Thing) (nodes : ℕ → ℕ → List ℕ) (family : Family cells w make nodes)
    (keys : List ℕ) (keyed : Keyed keys cells w nodes) (c : ℕ) (below : c < cell_count cells) (own later : List Thing)
    (parts : things_of cells c ≡ own ++ (tabulate w (λ (i : ℕ). make (nodes c i)) ++ later))
    (others : (ps : List ℕ) → among same own (make ps) ≡ false) where
  abbrev pub row : ℕ → Thing
  row i = make (nodes c i)

  abbrev pub earlier : List Thing
  earlier = things_to cells c ++ own

  abbrev pub value : ℕ → ℕ
  value j = number_by same_nodes n cells (make (nodes (j / w) (j % w)))

  whole : (rest : List Thing) × (things cells ≡ earlier ++ (tabulate w row ++ rest))
  whole =
      let past = chain_past c (cell_count cells) (things_of cells) below in
      (later ++ past.0, past.1 ∙ regroup (things_to cells c) (things_of cells c) own (tabulate w row) later past.0 parts)

  differ : (i k : ℕ) → i < k → k < w → same (row i) (row k) ≡ false
  differ i k less h = family.differ c i k below less h

  -- the key and the number of a slot
  key_at : (d i : ℕ) → d < cell_count cells → i < w → get_or keys (w * d + i) 0 ≡ key (nodes d i)
  key_at d i h l =
      let inside = row_within w d (cell_count cells) h in
      keyed (w * d + i) (omega arith) ∙ rw (slot_row w d i l, slot_place w d i l)

  value_at : (i : ℕ) → i < w → value (w * c + i) ≡ number_by same_nodes n cells (row i)
  value_at i l = rw (slot_row w c i l, slot_place w c i l)

  -- what an earlier cell has is met before, and what is met before an earlier cell has
  has : (i d k : ℕ) → d < c → k < w → same (make (nodes d k)) (row i) ≡ true → among same earlier (row i) ≡ true
  has i d k h l t =
      among_append same (things_to cells c) own (row i)
      ∙ rw (chain_has same (row i) c (things_of cells) d h (family.only d (nodes c i) ∙ tabulate_has same (row i) w (λ (i : ℕ). make (nodes d i)) k l t))

  found : (i : ℕ) → among same earlier (row i) ≡ true → (d : ℕ) × (k : ℕ) × (d < c) × (k < w) × (same (make (nodes d k)) (row i) ≡ true)
  found i t =
      let chained : among same (things_to cells c) (row i) ≡ true =
      sym (or-false _)
      ∙ ap (λ (b : Bool). among same (things_to cells c) (row i) || b) (sym (others (nodes c i)))
      ∙ sym (among_append same (things_to cells c) own (row i))
      ∙ t in
      let cell = chain_found same (row i) c (things_of cells) chained in
      let place = tabulate_found same (row i) w (λ (k : ℕ). make (nodes cell.0 k)) (sym (family.only cell.0 (nodes c i)) ∙ cell.2) in
      (cell.0, place.0, cell.1, place.1, place.2)

  tell : (i d k : ℕ) → i < w → d < c → k < w → (key (nodes d k) ≡ key (nodes c i)) ↔ (same (make (nodes d k)) (row i) ≡ true)
  tell i d k h l m =
      let told = keys_tell (nodes d k) (nodes c i) (family.long d k c i) (family.good d k (omega arith) m) (family.good c i below h) in
      ((λ e. family.alike (nodes d k) (nodes c i) ∙ told.0 e), (λ t. told.1 (sym (family.alike (nodes d k) (nodes c i)) ∙ t)))

  pub keeps_to : Rule keys (w * c) w value (λ (i : ℕ). next_after same_nodes n (earlier ++ tabulate i row))
  keeps_to =
      record {
        old = λ i j h l e.
            let d = row_of w c j family.some l in
            let k = mod-lt j family.some in
            let inside = row_within w c (cell_count cells) below in
            let t = (tell i (j / w) (j % w) h d k).0 (sym (keyed j (omega arith)) ∙ e ∙ key_at c i below h) in (
              value_at i h ∙ keeps same_nodes same_nodes_lem n cells (row i) _ ((same_by_lem same_nodes same_nodes_lem).swap (row i) _ ∙ t),
              known same_nodes same_nodes_lem n cells w row earlier whole.0 whole.1 differ i h (has i (j / w) (j % w) d k t),
            );
        new = λ i h missing.
            let fresh : among same earlier (row i) ≡ false =
            is_false (among same earlier (row i)) (λ t.
            let (d, k, l, m, s) = found i t in
            let inside = row_within w d c l in
            missing (w * d + k) (omega arith) (key_at d k (omega arith) m ∙ (tell i d k h l m).1 s ∙ sym (key_at c i below h))) in
            let first = new same_nodes same_nodes_lem n cells w row earlier whole.0 whole.1 differ i h fresh in
            (value_at i h ∙ first.0, first.1);
      }

behind : (a e f z : List Thing) → a ++ (e ++ (f ++ z)) ≡ ((a ++ e) ++ f) ++ z
behind a e f z = rw (append_assoc (a ++ e) f z, append_assoc a e (f ++ z))

in_three : (a e f z rest : List Thing) → a ++ ((e ++ (f ++ z)) ++ rest) ≡ ((a ++ e) ++ f) ++ (z ++ rest)
in_three a e f z rest =
    ap (λ (l : List Thing). a ++ l) (append_assoc e (f ++ z) rest ∙ ap (λ (l : List Thing). e ++ l) (append_assoc f z rest)) ∙ behind a e f (z ++ rest)

-- A mesh of at most 1,024 nodes whose cells have no fault.
module _ (n : ℕ) (few : n ≤ 1024) (cells : List ℕ) (sound : (d : ℕ) → d < cell_count cells → Sound n 8 (node 8 cells d)) where
  edge_family : Family cells 12 edge (edge_nodes cells)
  edge_family =
      record {
        some = omega arith;
        alike = λ ps qs. refl;
        only = λ d ps. refl;
        long = λ d i e k. refl;
        good = λ d i h l. key_nodes n (edge_nodes cells d i) few (edge_nodes_lem n cells d (sound d h) i l);
        differ = λ d i k h. own_parts_differ.edges_differ n cells d (sound d h) i k;
      }

  face_family : Family cells 6 face (face_nodes cells)
  face_family =
      record {
        some = omega arith;
        alike = λ ps qs. refl;
        only = λ d ps. refl;
        long = λ d i e k. refl;
        good = λ d i h l. key_nodes n (face_nodes cells d i) few (face_nodes_lem n cells d (sound d h) i l);
        differ = λ d i k h. own_faces_differ n cells d (sound d h) i k;
      }

  module _ (c : ℕ) (below : c < cell_count cells) where
    pub edge_rule : (keys : List ℕ) → Agrees keys (12 * cell_count cells) (edge_key cells) →
        Rule keys (12 * c) 12 (edge_number n cells) (λ (i : ℕ). next_after same_nodes n ((things_to cells c ++ []) ++ tabulate i (edge_of cells c)))
    edge_rule keys keyed = keeps_to n cells 12 edge (edge_nodes cells) edge_family keys keyed c below [] (faces_of cells c ++ (centre c ∷ [])) refl (λ ps. refl)

    pub face_rule : (keys : List ℕ) → Agrees keys (6 * cell_count cells) (face_key cells) →
        Rule keys (6 * c) 6 (face_number n cells) (λ (i : ℕ). next_after same_nodes n ((things_to cells c ++ edges_of cells c) ++ tabulate i (face_of cells c)))
    face_rule keys keyed = keeps_to n cells 6 face (face_nodes cells) face_family keys keyed c below (edges_of cells c) (centre c ∷ []) refl (λ ps. refl)

    -- "every centre is new": no earlier cell has this one's
    not_met : among same ((things_to cells c ++ edges_of cells c) ++ faces_of cells c) (centre c) ≡ false
    not_met =
        among_append same (things_to cells c ++ edges_of cells c) (faces_of cells c) (centre c)
        ∙ or-false _
        ∙ among_append same (things_to cells c) (edges_of cells c) (centre c)
        ∙ or-false _
        ∙ is_false (among same (things_to cells c) (centre c)) (λ t.
        let cell = chain_found same (centre c) c (things_of cells) t in
        let e = eqb-true cell.0 c (sym (or-false (eqb cell.0 c)) ∙ cell.2) in
        omega (arith, cell.1))

    pub centre_rule : (number_by same_nodes n cells (centre c) ≡ next_after same_nodes n ((things_to cells c ++ edges_of cells c) ++ faces_of cells c))
        × (next_after same_nodes n (things_to cells (c + 1)) ≡ next_after same_nodes n ((things_to cells c ++ edges_of cells c) ++ faces_of cells c) + 1)
    unfolding chain
    centre_rule =
        let before = (things_to cells c ++ edges_of cells c) ++ faces_of cells c in
        let past = chain_past c (cell_count cells) (things_of cells) below in
        let all = past.1 ∙ in_three (things_to cells c) (edges_of cells c) (faces_of cells c) (centre c ∷ []) past.0 in
        let first = new same_nodes same_nodes_lem n cells 1 (λ (i : ℕ). centre c) before past.0 all (λ i k less h. absurd (omega arith)) 0 (omega arith)
        not_met in
        let none : next_after same_nodes n (before ++ []) ≡ next_after same_nodes n before = ap (next_after same_nodes n) (append-nil before) in (
          first.0 ∙ none,
          ap (λ (d : ℕ). next_after same_nodes n (things_to cells d)) (add-one c)
              ∙ ap (next_after same_nodes n) (behind (things_to cells c) (edges_of cells c) (faces_of cells c) (centre c ∷ []))
              ∙ first.1
              ∙ ap (λ (k : ℕ). k + 1) none,
        )
