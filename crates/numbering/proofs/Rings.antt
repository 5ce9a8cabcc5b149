-- Rings of four different nodes. Two of them that have the same nodes are an order of four places, and what is said of an order is one computed test over the
-- places. Assumes nothing.
use Prim.Native.Nat.{ℕ, zero, suc, ◌+◌, ◌%◌, ◌<◌}
use native.Mathlib.Nat.{le_of_suc-le-suc, not-suc-le-zero}
use native.Mathlib.Omega.{arith}
use mathlib.Core.Path.{◌≡◌, refl, sym, ap, ap₂, ◌∙◌}
use mathlib.Core.Bool.{Bool, true, false, ◌&&◌, ◌||◌, not, cond}
use mathlib.Core.List.{List, [], ◌∷◌}
use borrow.Author.Tests.{eq-eqb, eqb-true}
use lib.Dec.{T, eqb, eqb→eq, ltb, ltb→lt}
use lib.ListN.{length, get_or}
use Rattle.numbers.specs.Rule.{tabulate, all, count, place_of}
use Rattle.numbers.specs.FirstMet.{among, apart}
use Rattle.numbers.proofs.All.{left_true, right_true, all_alike, any_alike}
use Rattle.numbers.proofs.Cases.{cases, never, is_true, is_false, passes, fails, eqb_sym}
use Rattle.numbers.proofs.FirstMet.{place_below, place_holds}
use Rattle.numbers.proofs.Tabulate.{tabulate_at}
use Rattle.numbers.proofs.Tests.{first, second, all_at, all_at_pair}
use Rattle.numbering.specs.Refinement.{within, same_members, same_nodes, turned, agree, same_ring}
use Rattle.numbering.specs.Rings.{Four, side, sides, shared_sides, order, RingsBySides, TwistedTears}
use Rattle.numbering.proofs.Cells.{eqb_map}
use Rattle.numbering.proofs.Same.{among_at, members, same_nodes_lem, around, all_within, ring_nodes, is_round}
use Rattle.numbering.proofs.Steps.{tabulate_found}

-- ---- what is alike where the numbers compare alike
among_alike : {A : Type 0} (same : A → A → Bool) (w : ℕ) (f g : ℕ → A) (x y : A) → ((k : ℕ) → k < w → same (f k) x ≡ same (g k) y)
    → among same (tabulate w f) x ≡ among same (tabulate w g) y
among_alike same zero f g x y h = refl
among_alike same (suc w) f g x y h =
    rw (h 0 (omega arith), among_alike same w (λ (k : ℕ). f (suc k)) (λ (k : ℕ). g (suc k)) x y (λ k below. h (suc k) (omega arith)))

within_alike : {A : Type 0} (same : A → A → Bool) (w : ℕ) (f g : ℕ → A) (xs ys : List A) → ((k : ℕ) → k < w → among same xs (f k) ≡ among same ys (g k))
    → within same (tabulate w f) xs ≡ within same (tabulate w g) ys
within_alike same zero f g xs ys h = refl
within_alike same (suc w) f g xs ys h =
    rw (h 0 (omega arith), within_alike same w (λ (k : ℕ). f (suc k)) (λ (k : ℕ). g (suc k)) xs ys (λ k below. h (suc k) (omega arith)))

count_alike : (n : ℕ) (p q : ℕ → Bool) → ((k : ℕ) → k < n → p k ≡ q k) → count n p ≡ count n q
count_alike zero p q h = refl
count_alike (suc n) p q h = rw (h n (omega arith), count_alike n p q (λ k below. h k (omega arith)))

pairs_alike : (a b c d a' b' c' d' : ℕ) → eqb a c ≡ eqb a' c' → eqb a d ≡ eqb a' d' → eqb b c ≡ eqb b' c' → eqb b d ≡ eqb b' d'
    → same_nodes (a ∷ b ∷ []) (c ∷ d ∷ []) ≡ same_nodes (a' ∷ b' ∷ []) (c' ∷ d' ∷ [])
pairs_alike a b c d a' b' c' d' ac ad bc bd =
    rw (eqb_sym c a, eqb_sym d a, eqb_sym c b, eqb_sym d b, eqb_sym c' a', eqb_sym d' a', eqb_sym c' b', eqb_sym d' b', ac, ad, bc, bd)

-- the nodes of one ring compare with those of another as these places do with those
abbrev Alike : List ℕ → List ℕ → List ℕ → List ℕ → Type 0
Alike ps qs is ks = (i j : ℕ) → i < 4 → j < 4 → eqb (get_or ps i 0) (get_or qs j 0) ≡ eqb (get_or is i 0) (get_or ks j 0)

other_way : (ps qs is ks : List ℕ) → Alike ps qs is ks → Alike qs ps ks is
other_way ps qs is ks h i j hi hj = eqb_sym (get_or qs i 0) (get_or ps j 0) ∙ h j i hj hi ∙ eqb_sym (get_or is j 0) (get_or ks i 0)

module _ (ps qs is ks : List ℕ) (alike : Alike ps qs is ks) where
  agree_alike : (back : Bool) (s : ℕ) → agree ps qs back s ≡ agree is ks back s
  agree_alike back s =
      all_alike (λ (j : ℕ). eqb (get_or ps j 0) (get_or qs (turned back s j % 4) 0)) (λ (j : ℕ). eqb (get_or is j 0) (get_or ks (turned back s j % 4) 0)) 4
      (λ j h. alike j (turned back s j % 4) h (around (turned back s j)))

  ring_alike : same_ring ps qs ≡ same_ring is ks
  ring_alike =
      any_alike (λ (s : ℕ). agree ps qs false s || agree ps qs true s) (λ (s : ℕ). agree is ks false s || agree is ks true s) 4
      (λ s h. ap₂ (λ (a b : Bool). a || b) (agree_alike false s) (agree_alike true s))

  side_alike : (i j : ℕ) → i < 4 → j < 4 → same_nodes (side ps i) (side qs j) ≡ same_nodes (side is i) (side ks j)
  side_alike i j hi hj =
      let i' = (i + 1) % 4 in
      let j' = (j + 1) % 4 in
      pairs_alike (get_or ps i 0) (get_or ps i' 0) (get_or qs j 0) (get_or qs j' 0) (get_or is i 0) (get_or is i' 0) (get_or ks j 0) (get_or ks j' 0)
      (alike i j hi hj) (alike i j' hi (around (j + 1))) (alike i' j (around (i + 1)) hj) (alike i' j' (around (i + 1)) (around (j + 1)))

  shared_alike : (i : ℕ) → i < 4 → among same_nodes (sides qs) (side ps i) ≡ among same_nodes (sides ks) (side is i)
  shared_alike i hi =
      among_alike same_nodes 4 (side qs) (side ks) (side ps i) (side is i)
      (λ j hj. same_nodes_lem.swap (side qs j) (side ps i) ∙ side_alike i j hi hj ∙ same_nodes_lem.swap (side is i) (side ks j))

  sides_within : within same_nodes (sides ps) (sides qs) ≡ within same_nodes (sides is) (sides ks)
  sides_within = within_alike same_nodes 4 (side ps) (side is) (sides qs) (sides ks) shared_alike

  counts_alike : shared_sides ps qs ≡ shared_sides is ks
  counts_alike = count_alike 4 (λ (j : ℕ). among same_nodes (sides qs) (side ps j)) (λ (j : ℕ). among same_nodes (sides ks) (side is j)) shared_alike

sides_alike : (ps qs is ks : List ℕ) → Alike ps qs is ks → same_members same_nodes (sides ps) (sides qs) ≡ same_members same_nodes (sides is) (sides ks)
sides_alike ps qs is ks alike = ap₂ (λ (a b : Bool). a && b) (sides_within ps qs is ks alike) (sides_within qs ps ks is (other_way ps qs is ks alike))

-- ---- different numbers
apart_places : (xs : List ℕ) → T (apart eqb xs) → (i k : ℕ) → i < k → k < length xs → get_or xs i 0 ≡ get_or xs k 0 → ⊥
apart_places [] h i k less below e = absurd (not-suc-le-zero below)
apart_places (x ∷ xs) h i zero less below e = absurd (not-suc-le-zero less)
apart_places (x ∷ xs) h zero (suc k) less below e =
    let fresh : among eqb xs x ≡ false = fails (among eqb xs x) (first (not (among eqb xs x)) (apart eqb xs) h) in
    never (sym (among_at xs k (le_of_suc-le-suc below)) ∙ rw (← e) fresh)
apart_places (x ∷ xs) h (suc i) (suc k) less below e =
    apart_places xs (second (not (among eqb xs x)) (apart eqb xs) h) i k (le_of_suc-le-suc less) (le_of_suc-le-suc below) e

places_apart : (w : ℕ) (f : ℕ → ℕ) → ((i k : ℕ) → i < k → k < w → f i ≡ f k → ⊥) → apart eqb (tabulate w f) ≡ true
places_apart zero f h = refl
places_apart (suc w) f h =
    let fresh : among eqb (tabulate w (λ (k : ℕ). f (suc k))) (f 0) ≡ false =
    is_false (among eqb (tabulate w (λ (k : ℕ). f (suc k))) (f 0)) (λ t.
    let (k, below, e) = tabulate_found eqb (f 0) w (λ (k : ℕ). f (suc k)) t in
    h 0 (suc k) (omega arith) (omega arith) (sym (eqb-true (f (suc k)) (f 0) e))) in
    rw fresh (places_apart w (λ (k : ℕ). f (suc k)) (λ i k less below e. h (suc i) (suc k) (omega arith) (omega arith) e))

-- ---- four places in some order
abbrev in_order : List ℕ
in_order = 0 ∷ 1 ∷ 2 ∷ 3 ∷ []

-- with the fourth opposite the first, and with the second
abbrev of_fourth : List ℕ
of_fourth = 0 ∷ 1 ∷ 3 ∷ 2 ∷ []

abbrev of_second : List ℕ
of_second = 0 ∷ 2 ∷ 1 ∷ 3 ∷ []

abbrev three_orders : List (List ℕ)
three_orders = in_order ∷ of_fourth ∷ of_second ∷ []

abbrev same_test : Bool → Bool → Bool
same_test a b = cond a b (not b)

same_test_lem : (a b : Bool) → T (same_test a b) → a ≡ b
same_test_lem true b t = sym (is_true b t)
same_test_lem false b t = sym (fails b t)

-- what is to be seen of an order: by its sides it is the same ring or not, and then two sides are shared; it is one of three; and any node and the one opposite
-- tell the ring
abbrev by_sides : List ℕ → Bool
by_sides ks = same_test (same_ring in_order ks) (same_members same_nodes (sides in_order) (sides ks))

abbrev tears : List ℕ → Bool
tears ks = same_ring in_order ks || (eqb (shared_sides in_order ks) 2 && eqb (shared_sides ks in_order) 2)

abbrev by_opposite : List ℕ → ℕ → ℕ → Bool
by_opposite ks i j = not (eqb i (get_or ks j 0)) || same_test (same_ring in_order ks) (eqb ((i + 2) % 4) (get_or ks ((j + 2) % 4) 0))

abbrev seen : List ℕ → Bool
seen ks = by_sides ks && (tears ks && (among same_ring three_orders ks && all 4 (λ (i : ℕ). all 4 (by_opposite ks i))))

abbrev when_apart : ℕ → ℕ → ℕ → ℕ → Bool
when_apart a b c d = let ks = a ∷ b ∷ c ∷ d ∷ [] in not (apart eqb ks) || seen ks

every_order : (a b c d : ℕ) → a < 4 → b < 4 → c < 4 → d < 4 → T (when_apart a b c d)
every_order a b c d ha hb hc hd =
    all_at_pair 4 4 (when_apart a b)
    (all_at_pair 4 4 (λ (a b : ℕ). all 4 (λ (c : ℕ). all 4 (when_apart a b c))) tt a b ha hb) c d hc hd

otherwise : (a b : Bool) → T (not a || b) → a ≡ true → T b
otherwise true b t e = t
otherwise false b t e = never (sym e)

-- ---- two rings of the same four nodes
module _ (ps : List ℕ) (four : Four ps) where
  at_differ : (i k : ℕ) → i < k → k < 4 → get_or ps i 0 ≡ get_or ps k 0 → ⊥
  at_differ i k less below = apart_places ps four.differ i k less (rw four.long below)

  -- orders of its nodes compare as the places do
  orders_alike : (is ks : List ℕ) → ((i : ℕ) → i < 4 → get_or is i 0 < 4) → ((j : ℕ) → j < 4 → get_or ks j 0 < 4) → Alike (order ps is) (order ps ks) is ks
  orders_alike is ks hi hk i j bi bj =
      ap₂ eqb (tabulate_at 4 (λ (j : ℕ). get_or ps (get_or is j 0) 0) 0 i bi) (tabulate_at 4 (λ (j : ℕ). get_or ps (get_or ks j 0) 0) 0 j bj)
      ∙ eqb_map 4 (λ (k : ℕ). get_or ps k 0) at_differ (get_or is i 0) (get_or ks j 0) (hi i bi) (hk j bj)

  module _ (qs : List ℕ) (four' : Four qs) (together : same_nodes ps qs ≡ true) where
    -- where the nodes of qs stand in ps
    abbrev place : ℕ → ℕ
    place j = place_of eqb ps (get_or qs j 0)

    abbrev ks : List ℕ
    ks = tabulate 4 place

    place_is_below : (j : ℕ) → j < 4 → place j < length ps
    place_is_below j h = place_below eqb ps (get_or qs j 0) (members ps qs together (get_or qs j 0) ∙ among_at qs j (rw four'.long h))

    below : (j : ℕ) → j < 4 → place j < 4
    below j h = rw four.long at (place_is_below j h)

    stands : (j : ℕ) → j < 4 → get_or ps (place j) 0 ≡ get_or qs j 0
    stands j h = place_holds ps (get_or qs j 0) (place_is_below j h)

    alike : Alike ps qs in_order ks
    alike i j hi hj =
        ap (eqb (get_or ps i 0)) (sym (stands j hj))
        ∙ eqb_map 4 (λ (k : ℕ). get_or ps k 0) at_differ i (place j) hi (below j hj)
        ∙ ap₂ eqb (sym (tabulate_at 4 (λ (i : ℕ). i) 0 i hi)) (sym (tabulate_at 4 place 0 j hj))

    sees : T (seen ks)
    sees =
        otherwise (apart eqb ks) (seen ks)
        (every_order (place 0) (place 1) (place 2) (place 3) (below 0 (omega arith)) (below 1 (omega arith)) (below 2 (omega arith)) (below 3 (omega arith)))
        (places_apart 4 place (λ i k less h e.
        apart_places qs four'.differ i k less (rw four'.long h) (sym (stands i (omega arith)) ∙ ap (λ (m : ℕ). get_or ps m 0) e ∙ stands k h)))

    abbrev ring_tells : Bool
    ring_tells = all 4 (λ (i : ℕ). all 4 (by_opposite ks i))

    sides_tell : same_ring ps qs ≡ same_members same_nodes (sides ps) (sides qs)
    sides_tell =
        ring_alike ps qs in_order ks alike
        ∙ same_test_lem (same_ring in_order ks) (same_members same_nodes (sides in_order) (sides ks))
        (first (by_sides ks) (tears ks && (among same_ring three_orders ks && ring_tells)) sees)
        ∙ sym (sides_alike ps qs in_order ks alike)

    two_differ : same_ring ps qs ≡ false → (shared_sides ps qs ≡ 2) × (shared_sides qs ps ≡ 2)
    two_differ other =
        let torn = first (tears ks) (among same_ring three_orders ks && ring_tells)
        (second (by_sides ks) (tears ks && (among same_ring three_orders ks && ring_tells)) sees) in
        let not_one : same_ring in_order ks ≡ false = sym (ring_alike ps qs in_order ks alike) ∙ other in
        let two : T (eqb (shared_sides in_order ks) 2 && eqb (shared_sides ks in_order) 2) = rw not_one at torn in (
          counts_alike ps qs in_order ks alike
              ∙ eqb→eq (shared_sides in_order ks) 2 (first (eqb (shared_sides in_order ks) 2) (eqb (shared_sides ks in_order) 2) two),
          counts_alike qs ps ks in_order (other_way ps qs in_order ks alike)
              ∙ eqb→eq (shared_sides ks in_order) 2 (second (eqb (shared_sides in_order ks) 2) (eqb (shared_sides ks in_order) 2) two),
        )

    is_one_of_three : T (among same_ring three_orders ks)
    is_one_of_three =
        first (among same_ring three_orders ks) ring_tells
        (second (tears ks) (among same_ring three_orders ks && ring_tells)
        (second (by_sides ks) (tears ks && (among same_ring three_orders ks && ring_tells)) sees))

    -- an order of ps against qs
    against : (is : List ℕ) → ((i : ℕ) → i < 4 → get_or is i 0 < 4) → same_ring (order ps is) qs ≡ same_ring is ks
    against is small =
        ring_alike (order ps is) qs is ks (λ i j hi hj.
        ap₂ eqb (tabulate_at 4 (λ (j : ℕ). get_or ps (get_or is j 0) 0) 0 i hi) (sym (stands j hj))
        ∙ eqb_map 4 (λ (k : ℕ). get_or ps k 0) at_differ (get_or is i 0) (place j) (small i hi) (below j hj)
        ∙ ap (eqb (get_or is i 0)) (sym (tabulate_at 4 place 0 j hj)))

    -- any node, and the one opposite, tell the ring
    pub opposite_tells : (i j : ℕ) → i < 4 → j < 4 → get_or ps i 0 ≡ get_or qs j 0
        → same_ring ps qs ≡ eqb (get_or ps ((i + 2) % 4) 0) (get_or qs ((j + 2) % 4) 0)
    opposite_tells i j hi hj e =
        let index : (i : ℕ) → i < 4 → get_or in_order i 0 ≡ i = λ i h. tabulate_at 4 (λ (i : ℕ). i) 0 i h in
        let i' = (i + 2) % 4 in
        let j' = (j + 2) % 4 in
        let here : eqb i (get_or ks j 0) ≡ true =
        ap (λ (m : ℕ). eqb m (get_or ks j 0)) (sym (index i hi)) ∙ sym (alike i j hi hj) ∙ eq-eqb (get_or ps i 0) (get_or qs j 0) e in
        let told = otherwise (eqb i (get_or ks j 0)) (same_test (same_ring in_order ks) (eqb i' (get_or ks j' 0)))
        (all_at_pair 4 4 (by_opposite ks)
        (second (among same_ring three_orders ks) ring_tells
        (second (tears ks) (among same_ring three_orders ks && ring_tells)
        (second (by_sides ks) (tears ks && (among same_ring three_orders ks && ring_tells)) sees)))
        i j hi hj) here in
        ring_alike ps qs in_order ks alike
        ∙ same_test_lem (same_ring in_order ks) (eqb i' (get_or ks j' 0)) told
        ∙ ap (λ (m : ℕ). eqb m (get_or ks j' 0)) (sym (index i' (around (i + 2))))
        ∙ sym (alike i' j' (around (i + 2)) (around (j + 2)))

-- ---- the claims
within_each : {A : Type 0} (same : A → A → Bool) (w : ℕ) (f : ℕ → A) (xs : List A) → within same (tabulate w f) xs ≡ true
    → (k : ℕ) → k < w → among same xs (f k) ≡ true
within_each same zero f xs h k below = absurd (not-suc-le-zero below)
within_each same (suc w) f xs h zero below = left_true (among same xs (f 0)) (within same (tabulate w (λ (k : ℕ). f (suc k))) xs) h
within_each same (suc w) f xs h (suc k) below =
    within_each same w (λ (k : ℕ). f (suc k)) xs (right_true (among same xs (f 0)) (within same (tabulate w (λ (k : ℕ). f (suc k))) xs) h)
    k (le_of_suc-le-suc below)

-- the ends of a side are nodes
side_nodes : (qs : List ℕ) (k x : ℕ) → length qs ≡ 4 → k < 4 → among eqb (side qs k) x ≡ true → among eqb qs x ≡ true
side_nodes qs k x long h t =
    let k' = (k + 1) % 4 in
    cases (eqb (get_or qs k 0) x)
    (λ e. rw (← eqb-true (get_or qs k 0) x e) (among_at qs k (rw long h)))
    (λ f.
    cases (eqb (get_or qs k' 0) x)
    (λ e. rw (← eqb-true (get_or qs k' 0) x e) (among_at qs k' (rw long (around (k + 1)))))
    (λ g. never (sym t ∙ rw (f, g))))

sides_nodes : (ps qs : List ℕ) → length ps ≡ 4 → length qs ≡ 4 → within same_nodes (sides ps) (sides qs) ≡ true → within eqb ps qs ≡ true
sides_nodes ps qs hp hq h =
    all_within ps qs hp (λ j below.
    let x = get_or ps j 0 in
    let (k, less, e) = tabulate_found same_nodes (side ps j) 4 (side qs) (within_each same_nodes 4 (side ps) (sides qs) h j below) in
    side_nodes qs k x hq less (members (side qs k) (side ps j) e x ∙ rw (eq-eqb x x refl)))

none_alike : (x y z : Bool) → x ≡ false → y ≡ false → z ≡ false → T (not (x || (y || false)) && (not (z || false) && true))
none_alike x y z hx hy hz = rw (hx, hy, hz) tt

one_alike : (x y z x' y' z' : Bool) → x ≡ x' → y ≡ y' → z ≡ z' → T (x' || (y' || (z' || false))) → T (x || (y || (z || false)))
one_alike x y z x' y' z' hx hy hz t = rw (hx, hy, hz) t

three_small : (is : List ℕ) → T (all 4 (λ (i : ℕ). ltb (get_or is i 0) 4)) → (i : ℕ) → i < 4 → get_or is i 0 < 4
three_small is t i h = ltb→lt (get_or is i 0) 4 (all_at 4 (λ (i : ℕ). ltb (get_or is i 0) 4) t i h)

pub rings_by_sides : RingsBySides
rings_by_sides =
    record {
      by_sides = λ ps qs hp hq.
          cases (same_nodes ps qs)
          (λ t. sides_tell ps hp qs hq t)
          (λ f.
          is_false (same_ring ps qs) (λ t. never (sym (ring_nodes ps qs hp.long hq.long t) ∙ f))
          ∙ sym (is_false (same_members same_nodes (sides ps) (sides qs)) (λ t.
          let here = within same_nodes (sides ps) (sides qs) in
          let there = within same_nodes (sides qs) (sides ps) in
          never (sym (ap₂ (λ (a b : Bool). a && b) (sides_nodes ps qs hp.long hq.long (left_true here there t))
          (sides_nodes qs ps hq.long hp.long (right_true here there t))) ∙ f))));
      turns = λ ps back s h. passes _ (is_round (tabulate 4 (λ (j : ℕ). get_or ps (turned back s j % 4) 0)) ps
          (record { back = back; start = s; below = h; meets = λ j less. tabulate_at 4 (λ (j : ℕ). get_or ps (turned back s j % 4) 0) 0 j less }));
      differ = λ ps hp.
          let other : (is ks : List ℕ) → T (all 4 (λ (i : ℕ). ltb (get_or is i 0) 4)) → T (all 4 (λ (i : ℕ). ltb (get_or ks i 0) 4)) →
          same_ring (order ps is) (order ps ks) ≡ same_ring is ks =
          λ is ks hi hk. ring_alike (order ps is) (order ps ks) is ks (orders_alike ps hp is ks (three_small is hi) (three_small ks hk)) in
          none_alike (same_ring (order ps of_fourth) (order ps in_order)) (same_ring (order ps of_second) (order ps in_order))
          (same_ring (order ps of_second) (order ps of_fourth)) (other of_fourth in_order tt tt) (other of_second in_order tt tt) (other of_second of_fourth tt tt);
      no_fourth = λ ps qs hp hq t.
          let together = is_true (same_nodes ps qs) t in
          let one = against ps hp qs hq together in
          one_alike (same_ring (order ps in_order) qs) (same_ring (order ps of_fourth) qs) (same_ring (order ps of_second) qs) _ _ _
          (one in_order (three_small in_order tt)) (one of_fourth (three_small of_fourth tt)) (one of_second (three_small of_second tt))
          (is_one_of_three ps hp qs hq together);
    }

pub twisted_tears : TwistedTears
twisted_tears ps qs hp hq t other = two_differ ps hp qs hq (is_true (same_nodes ps qs) t) other
