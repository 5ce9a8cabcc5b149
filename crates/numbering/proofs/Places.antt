-- At the place of a number stands what got it: a whole thing, and the same as each that has this number. Assumes nothing.
use Prim.Native.Nat.{ℕ, ◌+◌, ◌-◌, ◌<◌}
use native.Mathlib.Omega.{arith}
use mathlib.Core.Path.{◌≡◌, refl, subst⁻¹}
use mathlib.Core.Bool.{true}
use mathlib.Core.List.{List, [], ◌∷◌, ◌++◌}
use lib.ListN.{length, get_or}
use Rattle.numbers.specs.Rule.{place_of}
use Rattle.numbers.specs.FirstMet.{among}
use Rattle.numbers.proofs.Every.{Every, every_append, every_tabulate, every_member}
use Rattle.numbers.proofs.FirstMet.{place_same, place_below, member_among, meet_agree}
use Rattle.numbering.specs.Refinement.{Thing, edge, face, centre, same_ring, same, cell_count, edge_of, face_of, edges_of, faces_of, things_of, things}
use Rattle.numbering.specs.Refinement.{given, given_by, number}
use Rattle.numbering.proofs.Same.{same_rings, same_things}
use Rattle.numbering.proofs.Steps.{chain_has, is_given}
use Rattle.numbering.proofs.Twists.{every_chain}

-- an edge has two nodes and a face four
abbrev pub Whole : Thing → Type 0
Whole (edge ps) = length ps ≡ 2
Whole (face ps) = length ps ≡ 4
Whole (centre c) = Unit {0}

pub cell_whole : (cells : List ℕ) (c : ℕ) → Every Whole (things_of cells c)
cell_whole cells c =
    every_append Whole (edges_of cells c) (faces_of cells c ++ (centre c ∷ [])) (every_tabulate Whole 12 (edge_of cells c) (λ e h. refl))
    (every_append Whole (faces_of cells c) (centre c ∷ []) (every_tabulate Whole 6 (face_of cells c) (λ f h. refl)) (tt, tt))

given_whole : (cells : List ℕ) → Every Whole (given cells)
unfolding given_by
given_whole cells =
    (meet_agree same same Whole (λ x y h k. refl) [] (things cells) tt
    (every_chain Whole (cell_count cells) (things_of cells) (λ c below. cell_whole cells c))).1

-- thing j of cell c is met
pub cell_met : (cells : List ℕ) (d : Thing) (c j : ℕ) → c < cell_count cells → j < length (things_of cells c)
    → among same (things cells) (get_or (things_of cells c) j d) ≡ true
cell_met cells d c j below inside =
    chain_has same (get_or (things_of cells c) j d) (cell_count cells) (things_of cells) c below
    (member_among same same_things.self (things_of cells c) d j inside)

-- t, which is whole and the same, got the number of x
pub record Got (x t : Thing) : Type 0 where
  pub whole : Whole t
  pub alike : same t x ≡ true

pub got : (n : ℕ) (cells : List ℕ) (d x : Thing) → among same (things cells) x ≡ true → Got x (get_or (given cells) (number n cells x - n) d)
got n cells d x met =
    let p = place_of same (given cells) x in
    let within = place_below same (given cells) x (is_given same_ring same_rings cells x met) in
    let place : n + p - n ≡ p = omega arith in
    subst⁻¹ (λ (k : ℕ). Got x (get_or (given cells) k d)) place
    (record {
      whole = every_member Whole (given cells) d (given_whole cells) p within;
      alike = place_same same (given cells) x d within;
    })
