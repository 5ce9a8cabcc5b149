-- In a cell without a fault the nodes of an edge or a face are different numbers, and so its edges differ, and its faces: the rows of the tables do, which is
-- one computed test each, and the cell's nodes differ where their corners do. Assumes nothing.
use Prim.Native.Nat.{ℕ, ◌<◌}
use native.Mathlib.Nat.{eq-or-lt_of_le}
use native.Mathlib.Omega.{arith}
use mathlib.Core.Path.{◌≡◌, refl, sym, ap, ◌∙◌}
use mathlib.Core.Bool.{Bool, true, false, ◌&&◌, not}
use mathlib.Core.List.{List, [], ◌∷◌, map}
use mathlib.Core.Logic.{⊎_elim}
use borrow.Author.Tests.{eq-eqb, ne_eqb, eqb-true, eqb-false, ltb-true, ltb-false}
use lib.Dec.{T, eqb, ltb, ltb→lt}
use lib.ListN.{get_or}
use Rattle.numbers.specs.Rule.{all}
use Rattle.numbers.proofs.Cases.{cases, never, is_false, fails}
use Rattle.numbers.proofs.Table.{at}
use Rattle.numbers.proofs.Tests.{first, second, all_at, all_at_pair}
use Rattle.cell.specs.Edges.{end}
use Rattle.faults.specs.Faults.{node, Sound}
use Rattle.hexahedron.specs.Cube.{edges, idx2node}
use Rattle.numbers.specs.FirstMet.{among, apart}
use Rattle.numbering.specs.Refinement.{within, same_nodes, same_ring, edge_corners, face_corners, edge_nodes, face_nodes, OwnDiffer}
use Rattle.numbering.proofs.Same.{ring_nodes}

-- different node numbers of n
pub record Different (n : ℕ) (ps : List ℕ) : Type 0 where
  pub below : (x : ℕ) → among eqb ps x ≡ true → x < n
  pub differ : T (apart eqb ps)

-- Numbers by rule of which no two are the same tell their places.
module _ (w : ℕ) (f : ℕ → ℕ) (apart : (i k : ℕ) → i < k → k < w → f i ≡ f k → ⊥) where
  differ : (i k : ℕ) → i < w → k < w → f i ≡ f k → i ≡ k
  differ i k hi hk e =
      cases (ltb i k)
      (λ l. absurd (apart i k (ltb-true i k l) hk e))
      (λ l. ⊎_elim (λ (q : k ≡ i). sym q) (λ (less : k < i). absurd (apart k i less hi (sym e))) (eq-or-lt_of_le (ltb-false i k l)))

  pub eqb_map : (i k : ℕ) → i < w → k < w → eqb (f i) (f k) ≡ eqb i k
  eqb_map i k hi hk =
      cases (eqb i k)
      (λ t. eq-eqb (f i) (f k) (ap f (eqb-true i k t)) ∙ sym t)
      (λ n. ne_eqb (f i) (f k) (λ e. eqb-false i k n (differ i k hi hk e)) ∙ sym n)

-- all of these are corners
abbrev corners : List ℕ → Bool
corners [] = true
corners (p ∷ ps) = ltb p 8 && corners ps

head_is : (p : ℕ) (ps : List ℕ) → T (corners (p ∷ ps)) → p < 8
head_is p ps h = ltb→lt p 8 (first (ltb p 8) (corners ps) h)

tail_are : (p : ℕ) (ps : List ℕ) → T (corners (p ∷ ps)) → T (corners ps)
tail_are p ps h = second (ltb p 8) (corners ps) h

-- Different nodes keep all that tells lists of corners apart.
module _ (n : ℕ) (f : ℕ → ℕ) (sound : Sound n 8 f) where
  among_map : (ps : List ℕ) (x : ℕ) → T (corners ps) → x < 8 → among eqb (map f ps) (f x) ≡ among eqb ps x
  among_map [] x h hx = refl
  among_map (p ∷ ps) x h hx =
      rw (eqb_map 8 f sound.apart p x (head_is p ps h) hx, among_map ps x (tail_are p ps h) hx)

  within_map : (ps qs : List ℕ) → T (corners ps) → T (corners qs) → within eqb (map f ps) (map f qs) ≡ within eqb ps qs
  within_map [] qs hp hq = refl
  within_map (p ∷ ps) qs hp hq =
      rw (among_map qs p hq (head_is p ps hp), within_map ps qs (tail_are p ps hp) hq)

  same_map : (ps qs : List ℕ) → T (corners ps) → T (corners qs) → same_nodes (map f ps) (map f qs) ≡ same_nodes ps qs
  same_map ps qs hp hq = rw (within_map ps qs hp hq, within_map qs ps hq hp)

  apart_map : (ps : List ℕ) → T (corners ps) → apart eqb (map f ps) ≡ apart eqb ps
  apart_map [] h = refl
  apart_map (p ∷ ps) h =
      let rest = tail_are p ps h in
      rw (among_map ps p rest (head_is p ps h), apart_map ps rest)

  small_map : (ps : List ℕ) → T (corners ps) → (x : ℕ) → among eqb (map f ps) x ≡ true → x < n
  small_map [] h x t = never (sym t)
  small_map (p ∷ ps) h x t =
      cases (eqb (f p) x)
      (λ e. rw (eqb-true (f p) x e) at (sound.below p (head_is p ps h)))
      (λ g. small_map ps (tail_are p ps h) x (rw g at t))

-- a table of w rows of different corners, no two rows the same
abbrev good_row : (ℕ → List ℕ) → ℕ → Bool
good_row row i = corners (row i) && apart eqb (row i)

abbrev own_row : (ℕ → List ℕ) → ℕ → Bool
own_row row k = all k (λ (i : ℕ). not (same_nodes (row i) (row k)))

module _ (n : ℕ) (f : ℕ → ℕ) (sound : Sound n 8 f) (w : ℕ) (row : ℕ → List ℕ) (good : T (all w (good_row row))) (own : T (all w (own_row row))) where
  here : (i : ℕ) → i < w → T (corners (row i))
  here i h = first (corners (row i)) (apart eqb (row i)) (all_at w (good_row row) good i h)

  row_nodes : (i : ℕ) → i < w → Different n (map f (row i))
  row_nodes i h =
      record {
        below = small_map n f sound (row i) (here i h);
        differ = rw (apart_map n f sound (row i) (here i h)) (second (corners (row i)) (apart eqb (row i)) (all_at w (good_row row) good i h));
      }

  own_differ : (i k : ℕ) → i < k → k < w → same_nodes (map f (row i)) (map f (row k)) ≡ false
  own_differ i k less h =
      same_map n f sound (row i) (row k) (here i (omega arith)) (here k h)
      ∙ fails (same_nodes (row i) (row k)) (all_at k (λ (i : ℕ). not (same_nodes (row i) (row k))) (all_at w (own_row row) own k h) i less)

module _ (n : ℕ) (cells : List ℕ) (c : ℕ) (sound : Sound n 8 (node 8 cells c)) where
  pub edge_nodes_lem : (e : ℕ) → e < 12 → Different n (edge_nodes cells c e)
  edge_nodes_lem = row_nodes n (node 8 cells c) sound 12 edge_corners tt tt

  pub face_nodes_lem : (f : ℕ) → f < 6 → Different n (face_nodes cells c f)
  face_nodes_lem = row_nodes n (node 8 cells c) sound 6 face_corners tt tt

  pub own_faces_differ : (i k : ℕ) → i < k → k < 6 → same_nodes (face_nodes cells c i) (face_nodes cells c k) ≡ false
  own_faces_differ = own_differ n (node 8 cells c) sound 6 face_corners tt tt

pub own_parts_differ : OwnDiffer
own_parts_differ =
    record {
      edges_differ = λ n cells c sound. own_differ n (node 8 cells c) sound 12 edge_corners tt tt;
      faces_differ = λ n cells c sound i k less h.
          is_false (same_ring (face_nodes cells c i) (face_nodes cells c k))
          (λ t. never (sym (ring_nodes (face_nodes cells c i) (face_nodes cells c k) refl refl t) ∙ own_faces_differ n cells c sound i k less h));
    }

-- the tables hold corners
pub edge_corner : (e s : ℕ) → e < 12 → s < 2 → end edges e s < 8
edge_corner e s he hs = ltb→lt (end edges e s) 8 (all_at_pair 12 2 (λ (e s : ℕ). ltb (end edges e s) 8) tt e s he hs)

pub face_corner : (j : ℕ) → j < 24 → get_or idx2node j 0 < 8
face_corner j h = ltb→lt (get_or idx2node j 0) 8 (at (λ (k x : ℕ). ltb x 8) idx2node tt j h)
