-- Node lists are the same where they have the same members, and rings where one is a turn of the other: a turn of a turn is a turn. So the sameness of edges,
-- faces and centres is fit to number by, whichever of the two faces go by. Assumes nothing.
use Prim.Native.Nat.{ℕ, suc, ◌*◌, ◌%◌, ◌<◌}
use native.Mathlib.Nat.{mod-lt}
use native.Mathlib.Omega.{arith}
use mathlib.Core.Path.{◌≡◌, refl, sym, ap, ◌∙◌}
use mathlib.Core.Bool.{Bool, true, false, ◌&&◌, ◌||◌, not, cond, and_comm, or-true}
use mathlib.Core.List.{List, [], ◌∷◌}
use borrow.Author.Tests.{eq-eqb, eqb-true}
use lib.Dec.{T, eqb, eqb→eq}
use lib.ListN.{length, get_or}
use Rattle.numbers.specs.Rule.{all}
use Rattle.numbers.proofs.All.{left_true, right_true, all_each, all_where, any_found, any_has}
use Rattle.numbers.proofs.Cases.{cases, never, is_false, eqb_sym}
use Rattle.numbers.proofs.FirstMet.{member_among}
use Rattle.numbers.proofs.Tests.{all_at, all_at_pair}
use Rattle.numbers.specs.FirstMet.{among, Sameness}
use Rattle.numbering.specs.Refinement.{Thing, edge, face, centre, within, same_nodes, turned, agree, same_ring, same_by, SameThings}

both : (a b : Bool) → a ≡ true → b ≡ true → (a && b) ≡ true
both a b h k = rw (h, k)

member : (ps qs : List ℕ) (x : ℕ) → within eqb ps qs ≡ true → among eqb ps x ≡ true → among eqb qs x ≡ true
member [] qs x w h = never (sym h)
member (p ∷ ps) qs x w h =
    cases (eqb p x)
    (λ t. rw (eqb-true p x t) at (left_true (among eqb qs p) (within eqb ps qs) w))
    (λ f. member ps qs x (right_true (among eqb qs p) (within eqb ps qs) w) (rw f at h))

-- what is among a list stands at a place of it
among_place : (ps : List ℕ) (x : ℕ) → among eqb ps x ≡ true → (k : ℕ) × (k < length ps) × (get_or ps k 0 ≡ x)
among_place [] x h = never (sym h)
among_place (p ∷ ps) x h =
    cases (eqb p x)
    (λ t. (0, omega arith, eqb-true p x t))
    (λ f. let more = among_place ps x (rw f at h) in (suc more.0, omega (arith, more.1), more.2))

all_members : (ps qs : List ℕ) → ((x : ℕ) → among eqb ps x ≡ true → among eqb qs x ≡ true) → within eqb ps qs ≡ true
all_members [] qs h = refl
all_members (p ∷ ps) qs h =
    both (among eqb qs p) (within eqb ps qs)
    (h p (rw (eq-eqb p p refl)))
    (all_members ps qs (λ x k. h x (rw k (or-true (eqb p x)))))

-- the same members
pub members : (ps qs : List ℕ) → same_nodes ps qs ≡ true → (x : ℕ) → among eqb ps x ≡ among eqb qs x
members ps qs h x =
    cases (among eqb ps x)
    (λ t. t ∙ sym (member ps qs x (left_true (within eqb ps qs) (within eqb qs ps) h) t))
    (λ f. f ∙ sym (is_false (among eqb qs x) (λ t. never (sym (member qs ps x (right_true (within eqb ps qs) (within eqb qs ps) h) t) ∙ f))))

pub by_members : (ps qs : List ℕ) → ((x : ℕ) → among eqb ps x ≡ among eqb qs x) → same_nodes ps qs ≡ true
by_members ps qs h =
    both (within eqb ps qs) (within eqb qs ps) (all_members ps qs (λ x k. sym (h x) ∙ k)) (all_members qs ps (λ x k. h x ∙ k))

pub same_nodes_lem : Sameness same_nodes
same_nodes_lem =
    record {
      self = λ ps. by_members ps ps (λ x. refl);
      swap = λ ps qs. and_comm (within eqb ps qs) (within eqb qs ps);
      across = λ ps qs rs h k. by_members ps rs (λ x. members ps qs h x ∙ members qs rs k x);
    }

-- a node of a list is among its nodes
pub among_at : (qs : List ℕ) (k : ℕ) → k < length qs → among eqb qs (get_or qs k 0) ≡ true
among_at qs k below = member_among eqb (λ x. eq-eqb x x refl) qs 0 k below

-- Two ends that are two others are these in the same order or in the other.
pair_has : {A : Type 0} (a b x : ℕ) → among eqb (a ∷ b ∷ []) x ≡ true → (a ≡ x → A) → (b ≡ x → A) → A
pair_has a b x h f g =
    cases (eqb a x) (λ t. f (eqb-true a x t)) (λ m. cases (eqb b x) (λ t. g (eqb-true b x t)) (λ n. never (sym (rw (m, n) at h))))

module _ {A : Type 0} (a b c d : ℕ) (one : same_nodes (a ∷ b ∷ []) (c ∷ d ∷ []) ≡ true) (kept : a ≡ c → b ≡ d → A) (swapped : a ≡ d → b ≡ c → A) where
  pub two_orders : A
  two_orders =
      let there : (k : ℕ) → k < 2 → among eqb (c ∷ d ∷ []) (get_or (a ∷ b ∷ []) k 0) ≡ true =
      λ k h. sym (members (a ∷ b ∷ []) (c ∷ d ∷ []) one (get_or (a ∷ b ∷ []) k 0)) ∙ among_at (a ∷ b ∷ []) k h in
      let here : (k : ℕ) → k < 2 → among eqb (a ∷ b ∷ []) (get_or (c ∷ d ∷ []) k 0) ≡ true =
      λ k h. members (a ∷ b ∷ []) (c ∷ d ∷ []) one (get_or (c ∷ d ∷ []) k 0) ∙ among_at (c ∷ d ∷ []) k h in
      pair_has c d a (there 0 (omega arith))
      (λ c_a.
      pair_has a b d (here 1 (omega arith))
      (λ a_d. pair_has c d b (there 1 (omega arith)) (λ c_b. kept (sym c_a) (sym c_b ∙ c_a ∙ a_d)) (λ d_b. kept (sym c_a) (sym d_b)))
      (λ b_d. kept (sym c_a) b_d))
      (λ d_a.
      pair_has a b c (here 0 (omega arith))
      (λ a_c. pair_has c d b (there 1 (omega arith)) (λ c_b. swapped (sym d_a) (sym c_b)) (λ d_b. swapped (sym d_a) (sym d_b ∙ d_a ∙ a_c)))
      (λ b_c. swapped (sym d_a) b_c))

-- ps is qs gone round from node `start` on, back or forward
pub record Round (ps qs : List ℕ) : Type 0 where
  pub back : Bool
  pub start : ℕ
  pub below : start < 4
  pub meets : (j : ℕ) → j < 4 → get_or ps j 0 ≡ get_or qs (turned back start j % 4) 0

either_way : (a b : Bool) → (a || b) ≡ true → (back : Bool) × (cond back b a ≡ true)
either_way true b h = (false, refl)
either_way false b h = (true, h)

way_of : (ps qs : List ℕ) (back : Bool) (s : ℕ) → agree ps qs back s ≡ cond back (agree ps qs true s) (agree ps qs false s)
way_of ps qs true s = refl
way_of ps qs false s = refl

one_way : (a b : Bool) (back : Bool) → cond back b a ≡ true → (a || b) ≡ true
one_way a b true h = rw h (or-true a)
one_way a b false h = rw h

pub round : (ps qs : List ℕ) → same_ring ps qs ≡ true → Round ps qs
round ps qs h =
    let found = any_found (λ (s : ℕ). agree ps qs false s || agree ps qs true s) 4 h in
    let s = found.0 in
    let way = either_way (agree ps qs false s) (agree ps qs true s) found.2 in
    record {
      back = way.0;
      start = s;
      below = found.1;
      meets = λ j less. eqb-true (get_or ps j 0) (get_or qs (turned way.0 s j % 4) 0)
          (all_each (λ (j : ℕ). eqb (get_or ps j 0) (get_or qs (turned way.0 s j % 4) 0)) 4 (way_of ps qs way.0 s ∙ way.1) j less);
    }

pub is_round : (ps qs : List ℕ) → Round ps qs → same_ring ps qs ≡ true
is_round ps qs r =
    let s = r.start in
    let agrees : agree ps qs r.back s ≡ true =
    all_where (λ (j : ℕ). eqb (get_or ps j 0) (get_or qs (turned r.back s j % 4) 0)) 4 (λ j less. eq-eqb _ _ (r.meets j less)) in
    any_has (λ (s : ℕ). agree ps qs false s || agree ps qs true s) 4 s r.below
    (one_way (agree ps qs false s) (agree ps qs true s) r.back (sym (way_of ps qs r.back s) ∙ agrees))

-- a turn of a turn is a turn: twice back is forward
abbrev other_way : Bool → Bool → Bool
other_way a b = cond a (not b) b

abbrev turn_of_turn : Bool → Bool → ℕ → ℕ → Bool
turn_of_turn a b s t = all 4 (λ (j : ℕ). eqb (turned b t (turned a s j % 4) % 4) (turned (other_way a b) (turned b t s % 4) j % 4))

turn_of_turn_lem : (a b : Bool) (s t : ℕ) → s < 4 → t < 4 → T (turn_of_turn a b s t)
turn_of_turn_lem true true = all_at_pair 4 4 (turn_of_turn true true) tt
turn_of_turn_lem true false = all_at_pair 4 4 (turn_of_turn true false) tt
turn_of_turn_lem false true = all_at_pair 4 4 (turn_of_turn false true) tt
turn_of_turn_lem false false = all_at_pair 4 4 (turn_of_turn false false) tt

-- and every turn can be turned back
abbrev back_from : Bool → ℕ → ℕ
back_from back s = cond back 1 3 * s % 4

abbrev turn_back : Bool → ℕ → Bool
turn_back a s = all 4 (λ (j : ℕ). eqb (turned a s (turned a (back_from a s) j % 4) % 4) j)

turn_back_lem : (a : Bool) (s : ℕ) → s < 4 → T (turn_back a s)
turn_back_lem true = all_at 4 (turn_back true) tt
turn_back_lem false = all_at 4 (turn_back false) tt

pub around : (x : ℕ) → x % 4 < 4
around x = mod-lt x (omega arith)

then_round : (ps qs rs : List ℕ) → Round ps qs → Round qs rs → Round ps rs
then_round ps qs rs r q =
    let a = r.back in
    let b = q.back in
    let s = r.start in
    let t = q.start in
    record {
      back = other_way a b;
      start = turned b t s % 4;
      below = around (turned b t s);
      meets = λ j less.
          r.meets j less
          ∙ q.meets (turned a s j % 4) (around (turned a s j))
          ∙ ap (λ (k : ℕ). get_or rs k 0)
          (eqb→eq _ _ (all_at 4 (λ (j : ℕ). eqb (turned b t (turned a s j % 4) % 4) (turned (other_way a b) (turned b t s % 4) j % 4))
          (turn_of_turn_lem a b s t r.below q.below) j less));
    }

round_back : (ps qs : List ℕ) → Round ps qs → Round qs ps
round_back ps qs r =
    let a = r.back in
    let s = r.start in
    record {
      back = a;
      start = back_from a s;
      below = around (cond a 1 3 * s);
      meets = λ j less.
          ap (λ (k : ℕ). get_or qs k 0)
          (sym (eqb→eq _ _ (all_at 4 (λ (j : ℕ). eqb (turned a s (turned a (back_from a s) j % 4) % 4) j) (turn_back_lem a s r.below) j less)))
          ∙ sym (r.meets (turned a (back_from a s) j % 4) (around (turned a (back_from a s) j)));
    }

alike : (a b : Bool) → (a ≡ true → b ≡ true) → (b ≡ true → a ≡ true) → a ≡ b
alike true b f g = sym (f refl)
alike false b f g = sym (is_false b (λ t. never (sym (g t))))

pub same_rings : Sameness same_ring
same_rings =
    record {
      self = λ ps. is_round ps ps (record { back = false; start = 0; below = omega arith; meets = λ j less. ap (λ (k : ℕ). get_or ps k 0) (omega arith) });
      swap = λ ps qs. alike (same_ring ps qs) (same_ring qs ps)
          (λ h. is_round qs ps (round_back ps qs (round ps qs h)))
          (λ h. is_round ps qs (round_back qs ps (round qs ps h)));
      across = λ ps qs rs h k. is_round ps rs (then_round ps qs rs (round ps qs h) (round qs rs k));
    }

-- of four nodes and a list that each of them is among
pub all_within : (ps qs : List ℕ) → length ps ≡ 4 → ((j : ℕ) → j < 4 → among eqb qs (get_or ps j 0) ≡ true) → within eqb ps qs ≡ true
all_within ps qs long h =
    all_members ps qs (λ x k. let at = among_place ps x k in rw (← at.2) (h at.0 (omega (arith, at.1, long))))

-- the same ring has the same nodes
pub ring_nodes : (ps qs : List ℕ) → length ps ≡ 4 → length qs ≡ 4 → same_ring ps qs ≡ true → same_nodes ps qs ≡ true
ring_nodes ps qs hp hq h =
    let there : (ps qs : List ℕ) → length ps ≡ 4 → length qs ≡ 4 → Round ps qs → within eqb ps qs ≡ true =
    λ ps qs hp hq r. all_within ps qs hp (λ j less. rw (r.meets j less) (among_at qs (turned r.back r.start j % 4)
    (rw hq (around (turned r.back r.start j))))) in
    let r = round ps qs h in
    both (within eqb ps qs) (within eqb qs ps) (there ps qs hp hq r) (there qs ps hq hp (round_back ps qs r))

-- ---- things
module _ (one : List ℕ → List ℕ → Bool) (fit : Sameness one) where
  swap : (x y : Thing) → same_by one x y ≡ same_by one y x
  swap (edge ps) (edge qs) = same_nodes_lem.swap ps qs
  swap (edge ps) (face qs) = refl
  swap (edge ps) (centre d) = refl
  swap (face ps) (edge qs) = refl
  swap (face ps) (face qs) = fit.swap ps qs
  swap (face ps) (centre d) = refl
  swap (centre c) (edge qs) = refl
  swap (centre c) (face qs) = refl
  swap (centre c) (centre d) = eqb_sym c d

  self : (x : Thing) → same_by one x x ≡ true
  self (edge ps) = same_nodes_lem.self ps
  self (face ps) = fit.self ps
  self (centre c) = eq-eqb c c refl

  across : (x y z : Thing) → same_by one x y ≡ true → same_by one y z ≡ true → same_by one x z ≡ true
  across (edge ps) (edge qs) (edge rs) h k = same_nodes_lem.across ps qs rs h k
  across (edge ps) (edge qs) (face rs) h k = k
  across (edge ps) (edge qs) (centre e) h k = k
  across (edge ps) (face qs) z h k = never (sym h)
  across (edge ps) (centre d) z h k = never (sym h)
  across (face ps) (edge qs) z h k = never (sym h)
  across (face ps) (face qs) (edge rs) h k = k
  across (face ps) (face qs) (face rs) h k = fit.across ps qs rs h k
  across (face ps) (face qs) (centre e) h k = k
  across (face ps) (centre d) z h k = never (sym h)
  across (centre c) (edge qs) z h k = never (sym h)
  across (centre c) (face qs) z h k = never (sym h)
  across (centre c) (centre d) (edge rs) h k = k
  across (centre c) (centre d) (face rs) h k = k
  across (centre c) (centre d) (centre e) h k = rw (eqb-true c d h) k

  pub same_by_lem : Sameness (same_by one)
  same_by_lem = record { self = self; swap = swap; across = across }

pub same_things : SameThings
same_things = same_by_lem same_ring same_rings
