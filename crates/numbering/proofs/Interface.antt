-- An interface stays one. A corner of a child face names a node of the face's ring, an edge of two neighbours there, or the face: one computed test over the
-- rings. Two rings that are one have the same nodes, edges and face, and what is the same has one number. Assumes nothing.
use Prim.Native.Nat.{ℕ, ◌+◌, ◌*◌, ◌-◌, ◌/◌, ◌%◌, ◌≤◌, ◌<◌}
use native.Mathlib.Nat.{mod-lt, mod-mod, mod-add-mod}
use native.Mathlib.Omega.{arith}
use mathlib.Core.Path.{◌≡◌, refl, sym, ap, ◌∙◌}
use mathlib.Core.Bool.{Bool, true, false, ◌&&◌, cond, or-true}
use mathlib.Core.List.{List, [], ◌∷◌, map}
use borrow.Author.Tests.{eq-eqb, eqb-true, lt-ltb, le-ltb}
use lib.Dec.{T, eqb, eqb→eq, leb, leb→le, ltb, ltb→lt}
use lib.ListN.{get_or}
use Rattle.numbers.specs.Rule.{tabulate, grid, all}
use Rattle.numbers.proofs.All.{left_true, right_true}
use Rattle.numbers.proofs.Cases.{cases, never, is_true}
use Rattle.numbers.proofs.Tabulate.{tabulate_at}
use Rattle.numbers.proofs.Tests.{first, second, all_at, all_at_pair}
use Rattle.faults.specs.Faults.{node}
use Rattle.hexahedron.specs.Cube.{ring}
use Rattle.hex_children.specs.Children.{child_node}
use Rattle.hex_children.specs.Children.{number as number_of}
use Rattle.numbers.specs.FirstMet.{among}
use Rattle.numbering.specs.Refinement.{edge, face, centre, within, same_nodes, same_ring, turned, edge_corners}
use Rattle.numbering.specs.Refinement.{edge_of, face_of, edges_of, faces_of, number, child_numbers}
use Rattle.numbering.specs.Interface.{child_face, OneInterface}
use Rattle.numbering.proofs.Cells.{face_corner}
use Rattle.numbering.proofs.Same.{Round, is_round, same_rings}
use Rattle.numbering.proofs.Steps.{keeps}

-- the same numbers stay the same where each is replaced by its image
module _ (h : ℕ → ℕ) where
  among_image : (qs : List ℕ) (x : ℕ) → among eqb qs x ≡ true → among eqb (map h qs) (h x) ≡ true
  among_image [] x t = never (sym t)
  among_image (q ∷ qs) x t =
      cases (eqb q x)
      (λ e. rw (eq-eqb (h q) (h x) (ap h (eqb-true q x e))))
      (λ f. rw (among_image qs x (rw f at t)) (or-true (eqb (h q) (h x))))

  within_image : (ps qs : List ℕ) → within eqb ps qs ≡ true → within eqb (map h ps) (map h qs) ≡ true
  within_image [] qs t = refl
  within_image (p ∷ ps) qs t =
      rw (among_image qs p (left_true (among eqb qs p) (within eqb ps qs) t), within_image ps qs (right_true (among eqb qs p) (within eqb ps qs) t))

  same_image : (ps qs : List ℕ) → T (same_nodes ps qs) → same_nodes (map h ps) (map h qs) ≡ true
  same_image ps qs t =
      let e = is_true (same_nodes ps qs) t in
      rw (within_image ps qs (left_true (within eqb ps qs) (within eqb qs ps) e), within_image qs ps (right_true (within eqb ps qs) (within eqb qs ps) e))

-- how far apart two nodes of a ring of four stand: at one node, neighbours or opposite
abbrev pub steps : ℕ → ℕ → ℕ
steps j k = cond (eqb j k) 0 (cond (eqb (j % 2) (k % 2)) 2 1)

-- a number for each of these distances
abbrev pub by_step : ℕ → ℕ → ℕ → ℕ → ℕ
by_step d at_node of_edge of_face = cond (eqb d 0) at_node (cond (eqb d 1) of_edge of_face)

-- what a child face names, by the nodes of the ring
abbrev pub ring_number : ℕ → List ℕ → (ℕ → ℕ) → ℕ → ℕ → ℕ
ring_number n cells q j k = by_step (steps j k) (q j) (number n cells (edge (q j ∷ q k ∷ []))) (number n cells (face (tabulate 4 q)))

-- node m of a cell is one of two nodes of the ring of face f, the edge between them or the face
abbrev joined_by : ℕ → List ℕ → Bool
joined_by m ends = (leb 8 m && ltb m 20) && same_nodes (edge_corners (m - 8)) ends

abbrev is_at : ℕ → ℕ → ℕ → ℕ → Bool
is_at m f j k =
    cond (eqb (steps j k) 0) (eqb m (ring f j)) (cond (eqb (steps j k) 1) (joined_by m (ring f j ∷ ring f k ∷ [])) (eqb m (20 + f)))

-- and so is the node in the middle of the two
middle_is : (f j k : ℕ) → f < 6 → j < 4 → k < 4 → T (is_at (child_node (ring f j) (ring f k)) f j k)
middle_is f j k hf =
    all_at_pair 4 4 (λ (j k : ℕ). is_at (child_node (ring f j) (ring f k)) f j k)
    (all_at 6 (λ (f : ℕ). all 4 (λ (j : ℕ). all 4 (λ (k : ℕ). is_at (child_node (ring f j) (ring f k)) f j k))) tt f hf)
    j k

ring_corner : (f j : ℕ) → f < 6 → ring f j < 8
ring_corner f j h = let less : j % 4 < 4 = mod-lt j (omega arith) in face_corner (4 * f + j % 4) (omega arith)

pub grid_at : (f : ℕ → ℕ → ℕ) (a b : ℕ) → a < 8 → b < 8 → get_or (grid 8 8 f) (8 * a + b) 0 ≡ f a b
grid_at f a b ha hb =
    let row : (8 * a + b) / 8 ≡ a = omega arith in
    let place : (8 * a + b) % 8 ≡ b = omega arith in
    tabulate_at 64 (λ (k : ℕ). f (k / 8) (k % 8)) 0 (8 * a + b) (omega arith) ∙ rw (row, place)

module _ (n : ℕ) (cells : List ℕ) (c : ℕ) where
  -- the number of each of the 27 nodes of cell c
  abbrev numbered : ℕ → ℕ
  numbered =
      number_of (tabulate 8 (node 8 cells c)) (map (number n cells) (edges_of cells c)) (map (number n cells) (faces_of cells c)) (number n cells (centre c))

  at_corner : (m : ℕ) → m < 8 → numbered m ≡ node 8 cells c m
  at_corner m h = rw (lt-ltb m 8 h) (tabulate_at 8 (node 8 cells c) 0 m h)

  at_edge : (m : ℕ) → 8 ≤ m → m < 20 → numbered m ≡ number n cells (edge_of cells c (m - 8))
  at_edge m low high =
      rw (le-ltb m 8 low, lt-ltb m 20 high) (tabulate_at 12 (λ (e : ℕ). number n cells (edge_of cells c e)) 0 (m - 8) (omega arith))

  at_face : (m f : ℕ) → f < 6 → m ≡ 20 + f → numbered m ≡ number n cells (face_of cells c f)
  at_face m f h e =
      let place : m - 20 ≡ f = omega arith in
      rw (le-ltb m 8 (omega arith), le-ltb m 20 (omega arith), lt-ltb m 26 (omega arith), place)
      (tabulate_at 6 (λ (f : ℕ). number n cells (face_of cells c f)) 0 f h)

  edge_between : (m a b : ℕ) → T (joined_by m (a ∷ b ∷ [])) → numbered m ≡ number n cells (edge (node 8 cells c a ∷ node 8 cells c b ∷ []))
  edge_between m a b is =
      let row = edge_corners (m - 8) in
      let in_table = first (leb 8 m && ltb m 20) (same_nodes row (a ∷ b ∷ [])) is in
      let same_ends = second (leb 8 m && ltb m 20) (same_nodes row (a ∷ b ∷ [])) is in
      at_edge m (leb→le 8 m (first (leb 8 m) (ltb m 20) in_table)) (ltb→lt m 20 (second (leb 8 m) (ltb m 20) in_table))
      ∙ keeps same_ring same_rings n cells (edge_of cells c (m - 8)) (edge (map (node 8 cells c) (a ∷ b ∷ [])))
      (same_image (node 8 cells c) row (a ∷ b ∷ []) same_ends)

  numbered_at : (m f j k : ℕ) → f < 6 → T (is_at m f j k) → numbered m ≡ ring_number n cells (λ (i : ℕ). node 8 cells c (ring f i)) j k
  numbered_at m f j k hf is =
      cases (eqb (steps j k) 0)
      (λ t. let here : m ≡ ring f j = eqb→eq m (ring f j) (rw t at is) in rw (t, here) (at_corner (ring f j) (ring_corner f j hf)))
      (λ u.
      cases (eqb (steps j k) 1)
      (λ t. rw (u, t) (edge_between m (ring f j) (ring f k) (rw (u, t) at is)))
      (λ v. rw (u, v) (at_face m f hf (eqb→eq m (20 + f) (rw (u, v) at is)))))

  -- what corner k of child j of face f names
  pub child_face_lem : (f j k : ℕ) → f < 6 → j < 4 → k < 4 → child_face n cells c f j k ≡ ring_number n cells (λ (i : ℕ). node 8 cells c (ring f i)) j k
  child_face_lem f j k hf hj hk =
      grid_at (λ (i k : ℕ). numbered (child_node i k)) (ring f j) (ring f k) (ring_corner f j hf) (ring_corner f k hf)
      ∙ numbered_at (child_node (ring f j) (ring f k)) f j k hf (middle_is f j k hf hj hk)

-- a ring of four, gone round from node s on by ones or by threes, has its four nodes as far apart as they were
abbrev turns_right : Bool → ℕ → Bool
turns_right back s = all 4 (λ (j : ℕ). all 4 (λ (k : ℕ). eqb (steps j k) (steps (turned back s j % 4) (turned back s k % 4))))

turns_right_lem : (back : Bool) (s : ℕ) → s < 4 → T (turns_right back s)
turns_right_lem true = all_at 4 (turns_right true) tt
turns_right_lem false = all_at 4 (turns_right false) tt

-- rings that are one have the same numbers
ring_turned : (n : ℕ) (cells : List ℕ) (p q r : ℕ → ℕ) → ((i : ℕ) → i < 4 → p i ≡ q (r i))
    → number n cells (face (tabulate 4 p)) ≡ number n cells (face (tabulate 4 q))
    → (j k : ℕ) → j < 4 → k < 4 → steps j k ≡ steps (r j) (r k) → ring_number n cells p j k ≡ ring_number n cells q (r j) (r k)
ring_turned n cells p q r agree one j k hj hk apart = rw (apart, agree j hj, agree k hk, one)

ring_round : (g s x : ℕ) → ring g ((s % 4 + x) % 4) ≡ ring g (s + x)
ring_round g s x = rw (mod-mod, mod-add-mod)

pub one_interface : OneInterface
one_interface n cells c d f g back s hf hg agree j k hj hk =
    let p : ℕ → ℕ = λ i. node 8 cells c (ring f i) in
    let q : ℕ → ℕ = λ i. node 8 cells d (ring g i) in
    let start = s % 4 in
    let r : ℕ → ℕ = λ i. turned back start i % 4 in
    let below : (i : ℕ) → r i < 4 = λ i. mod-lt (turned back start i) (omega arith) in
    let meets : (i : ℕ) → i < 4 → p i ≡ q (r i) = λ i h. agree i h ∙ ap (node 8 cells d) (sym (ring_round g s (cond back 3 1 * i))) in
    let rounds : Round (tabulate 4 p) (tabulate 4 q) = record {
      back = back;
      start = start;
      below = mod-lt s (omega arith);
      meets = λ i h. tabulate_at 4 p 0 i h ∙ meets i h ∙ sym (tabulate_at 4 q 0 (r i) (below i));
    } in
    let one = keeps same_ring same_rings n cells (face (tabulate 4 p)) (face (tabulate 4 q)) (is_round (tabulate 4 p) (tabulate 4 q) rounds) in
    let test : ℕ → ℕ → Bool = λ j k. eqb (steps j k) (steps (r j) (r k)) in
    let numbers = child_numbers n cells d in
    child_face_lem n cells c f j k hf hj hk
    ∙ ring_turned n cells p q r meets one j k hj hk
    (eqb→eq (steps j k) (steps (r j) (r k)) (all_at_pair 4 4 test (turns_right_lem back start (mod-lt s (omega arith))) j k hj hk))
    ∙ sym (child_face_lem n cells d g (r j) (r k) hg (below j) (below k))
    ∙ ap (λ (a : ℕ). get_or numbers (8 * a + ring g (r k)) 0) (ring_round g s (cond back 3 1 * j))
    ∙ ap (λ (b : ℕ). get_or numbers (8 * ring g (turned back s j) + b) 0) (ring_round g s (cond back 3 1 * k))
