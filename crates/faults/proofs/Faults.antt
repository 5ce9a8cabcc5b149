-- The first fault of some cells, one cell at a time; and that cells without a fault are sound. Assumes nothing.
use Prim.Native.Nat.{ℕ, zero, suc, ◌+◌, ◌*◌, ◌/◌, ◌≤◌, ◌<◌}
use native.Mathlib.Nat.{eq-or-lt_of_le, le_of_suc-le-suc, not-suc-le-zero}
use native.Mathlib.Numerals.{add-one}
use native.Mathlib.Omega.{arith}
use mathlib.Core.Path.{◌≡◌, refl, sym, ◌∙◌, ap}
use mathlib.Core.Logic.{⊎_elim}
use mathlib.Core.Bool.{Bool, true, false, cond, not}
use mathlib.Core.List.{List, []}
use lib.Dec.{eqb, ltb, eqb-suc-zero}
use lib.ListN.{length, get_or, drop}
use lib.Seq.{get_or-drop}
use borrow.Author.Tests.{ne_eqb, eqb-false, ltb-true, lt-ltb, not-true}
use Rattle.numbers.proofs.All.{all_each, all_where, all_alike}
use Rattle.std.specs.Simd.{first_chunks}
use Rattle.std.proofs.lemmas.List.{get_or-take}
use Rattle.answer.specs.Told.{number}
use Rattle.answer.specs.declared.Refusal.{Refusal}
use Rattle.answer.specs.declared.Refusal.TheVariants.{Flat, Outside, Corner, Tolerance, Coordinate, TooFar, Limit, Length, Range, Twice, Mark, Version, FileLength, Twisted, OffGrid}
use Rattle.faults.specs.Faults.{node, names, differs, new_at, in_range, different, fault, fault_at, or_else, first_to, first_fault, Sound, FaultlessIsSound}

no_test : (a b : Bool) → ◌≡◌ {A = ℕ} (cond a (cond b 0 10) 9) 0 → (a ≡ true) × (b ≡ true)
no_test true true e = (refl, refl)
no_test true false e = absurd (omega arith)
no_test false b e = absurd (omega arith)

-- one cell, whatever its number of corners
module _ (n k : ℕ) (name : ℕ → ℕ) where
  apart_row : ((i j : ℕ) → i < j → j < k → name i ≡ name j → ⊥) → (j : ℕ) → j < k → new_at name j ≡ true
  apart_row f j h = all_where (differs name j) j (λ i below. ap not (ne_eqb (name i) (name j) (f i j below h)))

  pub sound_faultless : Sound n k name → fault n k name ≡ 0
  sound_faultless s =
      let ranged : in_range n k name ≡ true = all_where (λ (j : ℕ). ltb (name j) n) k (λ j h. lt-ltb (name j) n (s.below j h)) in
      let apart : different k name ≡ true = all_where (new_at name) k (apart_row s.apart) in
      rw (ranged, apart)

  pub faultless_sound : fault n k name ≡ 0 → Sound n k name
  faultless_sound e =
      let tests = no_test (in_range n k name) (different k name) e in
      let new : (i j : ℕ) → i < j → j < k → differs name j i ≡ true = λ i j h l. all_each (differs name j) j (all_each (new_at name) k tests.1 j l) i h in
      record {
        below = λ j h. ltb-true (name j) n (all_each (λ (j : ℕ). ltb (name j) n) k tests.0 j h);
        apart = λ i j h l. eqb-false (name i) (name j) (not-true (eqb (name i) (name j)) (new i j h l));
      }

-- cells whose corners have the same names have the same fault
module _ (n k : ℕ) (name name' : ℕ → ℕ) (same : (j : ℕ) → j < k → name j ≡ name' j) where
  fault_alike : fault n k name ≡ fault n k name'
  fault_alike =
      let ranged : in_range n k name ≡ in_range n k name' =
      all_alike (λ (j : ℕ). ltb (name j) n) (λ (j : ℕ). ltb (name' j) n) k (λ j h. rw (same j h)) in
      let apart : different k name ≡ different k name' =
      all_alike (new_at name) (new_at name') k
      (λ j h. all_alike (differs name j) (differs name' j) j (λ i below. rw (same i (omega arith), same j h))) in
      rw (ranged, apart)

earlier_none : (a b : ℕ) → or_else a b ≡ 0 → (a ≡ 0) × (b ≡ 0)
earlier_none zero b e = (refl, e)
earlier_none (suc a) b e = absurd (omega (arith, rw (eqb-suc-zero a) at e))

module _ (n k : ℕ) (cells : List ℕ) where
  -- once there is a fault it stays
  first_stays : (c d f : ℕ) → c ≤ d → (f ≡ 0 → ⊥) → first_to n k cells c ≡ f → first_to n k cells d ≡ f
  unfolding first_to
  first_stays c zero f h some e = let none : c ≡ 0 = omega arith in rw none at e
  first_stays c (suc d) f h some e =
      ⊎_elim
      (λ (same : c ≡ suc d). rw same at e)
      (λ (below : c < suc d). rw (first_stays c d f (le_of_suc-le-suc below) some e, ne_eqb f 0 some))
      (eq-or-lt_of_le h)

  first_none : (d : ℕ) → first_to n k cells d ≡ 0 → (c : ℕ) → c < d → fault_at n k cells c ≡ 0
  unfolding first_to
  first_none zero e c h = absurd (not-suc-le-zero h)
  first_none (suc d) e c h =
      let parts = earlier_none (first_to n k cells d) (fault_at n k cells d) e in
      ⊎_elim (λ (same : c ≡ d). rw same parts.1) (first_none d parts.0 c) (eq-or-lt_of_le (le_of_suc-le-suc h))

  none_first : (d : ℕ) → ((c : ℕ) → c < d → fault_at n k cells c ≡ 0) → first_to n k cells d ≡ 0
  unfolding first_to
  none_first zero f = refl
  none_first (suc d) f = rw (none_first d (λ c h. f c (omega arith)), f d (omega arith))

-- a search looks at the cells in turn, each in a copy, and none of the first c has a fault
module _ (n k : ℕ) (cells : List ℕ) (c : ℕ) (name : ℕ → ℕ) (none : first_to n k cells c ≡ 0) (same : (j : ℕ) → j < k → name j ≡ node k cells c j) where
  here : first_to n k cells (suc c) ≡ fault n k name
  unfolding first_to fault_at
  here = rw none (sym (fault_alike n k name (node k cells c) same))

  pub looked_more : fault n k name ≡ 0 → first_to n k cells (c + 1) ≡ 0
  looked_more e = rw add-one (here ∙ e)

  -- the first fault of all is the one found
  pub looked_found : (f : ℕ) → (f ≡ 0 → ⊥) → f ≡ fault n k name → c < length cells / k → f ≡ first_fault n k cells
  looked_found f some e below = sym (first_stays n k cells (suc c) (length cells / k) f (omega arith) some (here ∙ sym e))

-- a refusal's number is none that says that there is no fault
pub refuses : (r : Refusal) → number r ≡ 0 → ⊥
refuses Flat e = omega arith
refuses Outside e = omega arith
refuses Corner e = omega arith
refuses Tolerance e = omega arith
refuses Coordinate e = omega arith
refuses TooFar e = omega arith
refuses Limit e = omega arith
refuses Length e = omega arith
refuses Range e = omega arith
refuses Twice e = omega arith
refuses Mark e = omega arith
refuses Version e = omega arith
refuses FileLength e = omega arith
refuses Twisted e = omega arith
refuses OffGrid e = omega arith

-- the nodes of a list that is taken k at a time
pub taken : (k m : ℕ) (cells : List ℕ) (c : ℕ) → c < m → (j : ℕ) → j < k → names (get_or (first_chunks k m cells) c []) j ≡ node k cells c j
taken k zero cells c h j l = absurd (not-suc-le-zero h)
taken k (suc m) cells zero h j l = let at : j ≡ k * 0 + j = omega arith in get_or-take k cells j 0 l ∙ ap (λ (i : ℕ). get_or cells i 0) at
taken k (suc m) cells (suc c) h j l =
    let at : k + (k * c + j) ≡ k * suc c + j = omega arith in
    taken k m (drop k cells) c (le_of_suc-le-suc h) j l ∙ get_or-drop k cells (k * c + j) 0 ∙ ap (λ (i : ℕ). get_or cells i 0) at

pub faultless_is_sound : FaultlessIsSound
unfolding fault_at
faultless_is_sound =
    record {
      sound = λ n k cells e c h. faultless_sound n k (node k cells c) (first_none n k cells (length cells / k) e c h);
      faultless = λ n k cells f. none_first n k cells (length cells / k) (λ c h. sound_faultless n k (node k cells c) (f c h));
    }
