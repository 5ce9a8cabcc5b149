-- Faces with one number have the same nodes, so that a mesh is twisted exactly when some face has another ring than the one kept for its number.
-- Assumes nothing.
use Prim.Native.Nat.{ℕ, ◌+◌, ◌*◌, ◌-◌, ◌/◌, ◌%◌, ◌≤◌, ◌<◌}
use native.Mathlib.Nat.{mod-lt}
use native.Mathlib.Omega.{arith}
use mathlib.Core.Path.{◌≡◌, refl, sym, ap, ◌∙◌}
use mathlib.Core.Bool.{Bool, true, false, not}
use mathlib.Core.List.{List}
use borrow.Author.Tests.{eq-eqb, eqb-true, eqb-false}
use lib.Dec.{eqb}
use lib.ListN.{length, get_or, set}
use lib.Seq.{get_or-set_same, get_or-set_other}
use Rattle.numbers.specs.Rule.{all}
use Rattle.numbers.specs.FirstMet.{among}
use Rattle.numbers.proofs.All.{left_true, right_true, all_each, all_where}
use Rattle.numbers.proofs.Cases.{cases, never, is_false}
use Rattle.numbers.proofs.Slots.{slot_row, slot_place, row_of, row_within}
use Rattle.faults.specs.Faults.{node, Sound}
use Rattle.numbering.specs.Refinement.{face, same_nodes, same_ring, same_by, twist, twisted, cell_count, face_nodes, face_of}
use Rattle.numbering.specs.Refinement.{faces_of, things_of, things, number_by, next_by}
use Rattle.numbering.specs.Rings.{Four}
use Rattle.numbering.proofs.Cells.{face_nodes_lem}
use Rattle.numbering.proofs.Same.{same_nodes_lem}
use Rattle.numbering.proofs.Steps.{chain_has, tabulate_has, keeps, is_below, tells}
use Rattle.numbering.proofs.Twists.{twisted_by_pairs, good_meshes_keep_their_numbers}
use Rattle.keys.specs.Keys.{opposite, face_ring}
use Rattle.keys.proofs.Keys.{rings_tell}
use Rattle.refine.specs.Search.{Agrees, face_number, Between, by_number, RingsByNumber}

-- ---- one face more
pub rings_more : (first : ℕ) (faces rings list : List ℕ) (j : ℕ) → Between first faces (j + 1) → length list ≡ 2432 → RingsByNumber first faces rings j list
    → RingsByNumber first faces rings (j + 1) (set list (get_or faces j 0 - first) (get_or rings j 0))
rings_more first faces rings list j inside long held i below =
    let here = inside j (omega arith) in
    let there = inside i below in
    let at = get_or faces j 0 - first in
    let place = get_or faces i 0 - first in
    cases (eqb place at)
    (λ t.
    let e : place ≡ at = eqb-true place at t in
    let one : get_or faces j 0 ≡ get_or faces i 0 = omega arith in
    (j, omega arith, one, rw e (get_or-set_same list at (get_or rings j 0) 0 (omega arith))))
    (λ f.
    let other : place ≡ at → ⊥ = eqb-false place at f in
    let apart : i ≡ j → ⊥ = λ e. other (rw e) in
    let (k, less, one, kept) = held i (omega arith) in
    (k, omega arith, one, get_or-set_other list at place (get_or rings j 0) 0 other ∙ kept))

-- ---- the faces of a mesh without a fault
module _ (n : ℕ) (cells : List ℕ) (sound : (d : ℕ) → d < cell_count cells → Sound n 8 (node 8 cells d))
    (faces : List ℕ) (numbers : Agrees faces (6 * cell_count cells) (face_number n cells)) where
  met : (c f : ℕ) → c < cell_count cells → f < 6 → among (same_by same_nodes) (things cells) (face_of cells c f) ≡ true
  met c f hc hf =
      let x = face_of cells c f in
      let own : among (same_by same_nodes) (faces_of cells c) x ≡ true =
      tabulate_has (same_by same_nodes) x 6 (face_of cells c) f hf (same_nodes_lem.self (face_nodes cells c f)) in
      chain_has (same_by same_nodes) x (cell_count cells) (things_of cells) c hc own

  pub numbers_between : next_by same_nodes n cells ≤ n + 2432 → Between n faces (6 * cell_count cells)
  numbers_between few j below =
      let c = row_of 6 (cell_count cells) j (omega arith) below in
      let high = is_below same_nodes same_nodes_lem n cells (face_of cells (j / 6) (j % 6)) (met (j / 6) (j % 6) c (mod-lt j (omega arith))) in
      rw (numbers j below) (omega arith, omega arith)

  module _ (rings list : List ℕ) (ringed : Agrees rings (6 * cell_count cells) (face_ring cells))
      (held : RingsByNumber n faces rings (6 * cell_count cells) list) where
    abbrev fits : ℕ → Bool
    fits j = eqb (by_number n faces list j) (get_or rings j 0)

    four : (c f : ℕ) → c < cell_count cells → f < 6 → Four (face_nodes cells c f)
    four c f hc hf = record { long = refl; differ = (face_nodes_lem n cells c (sound c hc) f hf).differ }

    inside : (c f : ℕ) → c < cell_count cells → f < 6 → 6 * c + f < 6 * cell_count cells
    inside c f hc hf = omega (arith, row_within 6 c (cell_count cells) hc)

    number_at : (c f : ℕ) → c < cell_count cells → f < 6 → get_or faces (6 * c + f) 0 ≡ number_by same_nodes n cells (face_of cells c f)
    number_at c f hc hf = numbers (6 * c + f) (inside c f hc hf) ∙ rw (slot_row 6 c f hf, slot_place 6 c f hf)

    ring_at : (c f : ℕ) → c < cell_count cells → f < 6 → get_or rings (6 * c + f) 0 ≡ opposite (face_nodes cells c f)
    ring_at c f hc hf = ringed (6 * c + f) (inside c f hc hf) ∙ rw (slot_row 6 c f hf, slot_place 6 c f hf)

    -- where every ring is the one kept for its number, no two faces are twisted
    straight : all (6 * cell_count cells) fits ≡ true → twisted cells ≡ false
    straight h =
        (twisted_by_pairs cells).1 (λ c d f g hc hd hf hg.
        let ps = face_nodes cells c f in
        let qs = face_nodes cells d g in
        is_false (twist (face ps) (face qs)) (λ t.
        let together = left_true (same_nodes ps qs) (not (same_ring ps qs)) t in
        let kept : (c f : ℕ) → c < cell_count cells → f < 6 → by_number n faces list (6 * c + f) ≡ opposite (face_nodes cells c f) =
        λ c f hc hf. eqb-true _ _ (all_each fits (6 * cell_count cells) h (6 * c + f) (inside c f hc hf)) ∙ ring_at c f hc hf in
        let one = number_at c f hc hf ∙ keeps same_nodes same_nodes_lem n cells (face ps) (face qs) together ∙ sym (number_at d g hd hg) in
        let across : opposite ps ≡ opposite qs = sym (kept c f hc hf) ∙ ap (λ (x : ℕ). get_or list (x - n) 0) one ∙ kept d g hd hg in
        let ring = (rings_tell ps qs (four c f hc hf) (four d g hd hg) together).0 across in
        never (sym (right_true (same_nodes ps qs) (not (same_ring ps qs)) t) ∙ ap not ring)))

    -- and where no two are, a face with the number of another has its ring
    all_fit : twisted cells ≡ false → all (6 * cell_count cells) fits ≡ true
    all_fit not_twisted =
        all_where fits (6 * cell_count cells) (λ j below.
        let (k, less, one, kept) = held j below in
        let c = k / 6 in
        let f = k % 6 in
        let d = j / 6 in
        let g = j % 6 in
        let hc = row_of 6 (cell_count cells) k (omega arith) less in
        let hf = mod-lt k (omega arith) in
        let hd = row_of 6 (cell_count cells) j (omega arith) below in
        let hg = mod-lt j (omega arith) in
        let together = tells same_nodes same_nodes_lem n cells (face_of cells c f) (face_of cells d g) (met c f hc hf) (met d g hd hg)
        (sym (numbers k less) ∙ one ∙ numbers j below) in
        let ring = (good_meshes_keep_their_numbers n cells not_twisted).one_rule c d f g hc hd hf hg ∙ together in
        let across = (rings_tell (face_nodes cells c f) (face_nodes cells d g) (four c f hc hf) (four d g hd hg) together).1 ring in
        eq-eqb _ _ (kept ∙ ringed k less ∙ across ∙ sym (ringed j below)))

    pub differ_is_twisted : not (all (6 * cell_count cells) fits) ≡ twisted cells
    differ_is_twisted =
        cases (twisted cells)
        (λ t. ap not (is_false (all (6 * cell_count cells) fits) (λ h. never (sym t ∙ straight h))) ∙ sym t)
        (λ f. ap not (all_fit f) ∙ sym f)
