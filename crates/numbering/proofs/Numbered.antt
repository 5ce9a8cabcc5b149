-- The numbers n .. next - 1 are each given out once, to what is the same, and they are counted by sort. Assumes nothing.
use Prim.Native.Nat.{ℕ, zero, suc, ◌+◌, ◌-◌, ◌≤◌, ◌<◌}
use native.Mathlib.Numerals.{add-one}
use native.Mathlib.Omega.{arith}
use mathlib.Core.Path.{◌≡◌, refl, sym, ap, ◌∙◌}
use mathlib.Core.Bool.{Bool, true, false, cond}
use mathlib.Core.List.{List, [], ◌∷◌, ◌++◌, append-nil}
use mathlib.Core.Logic.{◌↔◌}
use borrow.Author.Tests.{ne_eqb}
use lib.Dec.{T, eqb}
use lib.ListN.{length, length-append}
use Rattle.numbers.proofs.Cases.{cases, never, is_true, passes, is_false}
use Rattle.numbers.specs.Rule.{place_of}
use Rattle.numbers.specs.FirstMet.{among, meet, different}
use Rattle.numbering.specs.Refinement.{Thing, edge, face, centre, same, edges_of, faces_of, things_of, things, same_ring}
use Rattle.numbering.specs.Refinement.{cell_count, chain, given, given_by, number, next, IsMet, count_of, NumberedOnce}
use Rattle.numbers.proofs.FirstMet.{among_append, among_meet, meet_append, meet_new, every_place, none_yet}
use Rattle.numbering.proofs.Same.{same_rings, same_things}
use Rattle.numbering.proofs.Steps.{chain_has, keeps, is_below, tells}

-- those of a list that pass
abbrev keep : {A : Type 0} → (A → Bool) → List A → List A
keep p [] = []
keep p (x ∷ xs) = cond (p x) (x ∷ keep p xs) (keep p xs)

keep_append : {A : Type 0} (p : A → Bool) (xs ys : List A) → keep p (xs ++ ys) ≡ keep p xs ++ keep p ys
keep_append p [] ys = refl
keep_append p (x ∷ xs) ys = cases (p x) (λ t. rw (t, keep_append p xs ys)) (λ f. rw (f, keep_append p xs ys))

-- the different ones of those that pass are those of the different ones that pass, where what is the same passes alike
module _ {A : Type 0} (same : A → A → Bool) (p : A → Bool) (fair : (x y : A) → same x y ≡ true → p x ≡ p y) where
  among_keep : (xs : List A) (x : A) → p x ≡ true → among same (keep p xs) x ≡ among same xs x
  among_keep [] x h = refl
  among_keep (y ∷ xs) x h =
      cases (p y)
      (λ t. rw (t, among_keep xs x h))
      (λ f. let other : same y x ≡ false = is_false (same y x) (λ t. never (sym h ∙ sym (fair y x t) ∙ f)) in rw (f, other) (among_keep xs x h))

  -- the same of one thing more
  keep_one : (met : List A) (x : A) → keep p (meet same met (x ∷ [])) ≡ meet same (keep p met) (keep p (x ∷ []))
  unfolding meet
  keep_one met x =
      cases (p x)
      (λ t.
      cases (among same met x)
      (λ old. rw t (rw (among_keep met x t, old)))
      (λ new. rw t (rw (among_keep met x t, new) (keep_append p met (x ∷ []) ∙ rw t))))
      (λ f.
      cases (among same met x)
      (λ old. rw f (rw old))
      (λ new. rw f (rw new (keep_append p met (x ∷ []) ∙ rw (f, append-nil)))))

  keep_meet : (met xs : List A) → keep p (meet same met xs) ≡ meet same (keep p met) (keep p xs)
  unfolding meet
  keep_meet met [] = refl
  keep_meet met (x ∷ xs) =
      keep_meet (meet same met (x ∷ [])) xs
      ∙ ap (λ (m : List A). meet same m (keep p xs)) (keep_one met x)
      ∙ sym (meet_append same (keep p met) (keep p (x ∷ [])) (keep p xs))
      ∙ ap (meet same (keep p met)) (sym (keep_append p (x ∷ []) xs))

keep_chain : {A : Type 0} (p : A → Bool) (c : ℕ) (f : ℕ → List A) → keep p (chain c f) ≡ chain c (λ (d : ℕ). keep p (f d))
unfolding chain
keep_chain p zero f = refl
keep_chain p (suc c) f = keep_append p (chain c f) (f c) ∙ rw (keep_chain p c f)

-- the three sorts
abbrev sort : Thing → ℕ
sort (edge ps) = 0
sort (face ps) = 1
sort (centre c) = 2

abbrev is_sort : ℕ → Thing → Bool
is_sort k x = eqb (sort x) k

same_sort : (x y : Thing) → same x y ≡ true → sort x ≡ sort y
same_sort (edge ps) (edge qs) h = refl
same_sort (edge ps) (face qs) h = never (sym h)
same_sort (edge ps) (centre d) h = never (sym h)
same_sort (face ps) (edge qs) h = never (sym h)
same_sort (face ps) (face qs) h = refl
same_sort (face ps) (centre d) h = never (sym h)
same_sort (centre c) (edge qs) h = never (sym h)
same_sort (centre c) (face qs) h = never (sym h)
same_sort (centre c) (centre d) h = refl

by_sort : (xs : List Thing) → length xs ≡ length (keep (is_sort 0) xs) + length (keep (is_sort 1) xs) + length (keep (is_sort 2) xs)
by_sort [] = refl
by_sort (edge ps ∷ xs) = let rest = by_sort xs in omega arith
by_sort (face ps ∷ xs) = let rest = by_sort xs in omega arith
by_sort (centre c ∷ xs) = let rest = by_sort xs in omega arith

-- what the first c cells have of one sort
kept : (k c : ℕ) (f : ℕ → List Thing) → keep (is_sort k) (different same (chain c f)) ≡ different same (chain c (λ (d : ℕ). keep (is_sort k) (f d)))
kept k c f =
    keep_meet same (is_sort k) (λ x y h. ap (λ (j : ℕ). eqb j k) (same_sort x y h)) [] (chain c f)
    ∙ ap (different same) (keep_chain (is_sort k) c f)

-- the centres of the first c cells
abbrev centres : ℕ → List Thing
centres c = chain c (λ (d : ℕ). centre d ∷ [])

-- "every centre is new"
fresh : (c d : ℕ) → c ≤ d → among same (centres c) (centre d) ≡ false
unfolding chain
fresh zero d h = refl
fresh (suc c) d h = among_append same (centres c) (centre c ∷ []) (centre d) ∙ rw (fresh c d (omega arith), ne_eqb c d (λ e. omega arith))

all_centres : (c : ℕ) → length (different same (centres c)) ≡ c
unfolding chain meet
all_centres zero = refl
all_centres (suc c) =
    let new : among same (different same (centres c)) (centre c) ≡ false = among_meet same same_things [] (centres c) (centre c) ∙ fresh c c (omega arith) in
    ap length (meet_append same [] (centres c) (centre c ∷ []) ∙ meet_new same (different same (centres c)) (centre c) new)
    ∙ length-append (different same (centres c)) (centre c ∷ [])
    ∙ add-one (length (different same (centres c)))
    ∙ ap suc (all_centres c)

module _ (n : ℕ) (cells : List ℕ) where
  each : (k : ℕ) → n ≤ k → k < next n cells → (x : Thing) × IsMet cells x × (number n cells x ≡ k)
  unfolding given_by
  each k low high =
      let found = every_place same same_things (things cells) [] (none_yet same same_things) (k - n) (omega arith) in
      let place : place_of same (different same (things cells)) found.0 ≡ k - n = found.2 in
      (found.0, passes (among same (things cells) found.0) (sym (among_meet same same_things [] (things cells) found.0) ∙ found.1), omega arith)

  abbrev met : Thing → Bool
  met x = among same (things cells) x

  shared : (x y : Thing) → IsMet cells x → IsMet cells y → (number n cells x ≡ number n cells y) ↔ T (same x y)
  shared x y mx my = (
    (λ e. passes (same x y) (tells same_ring same_rings n cells x y (is_true (met x) mx) (is_true (met y) my) e)),
    (λ t. keeps same_ring same_rings n cells x y (is_true (same x y) t)),
  )

  counted : length (given cells) ≡ count_of edges_of cells + count_of faces_of cells + cell_count cells
  unfolding given_by
  counted =
      let c = cell_count cells in
      by_sort (different same (things cells)) ∙ rw (kept 0 c (things_of cells), kept 1 c (things_of cells), kept 2 c (things_of cells), all_centres c)

pub numbered_once : NumberedOnce
numbered_once n cells =
    record {
      met = λ c x below t. passes _ (chain_has same x (cell_count cells) (things_of cells) c below (is_true (among same (things_of cells c) x) t));
      inside = λ x m. (omega arith, is_below same_ring same_rings n cells x (is_true (met n cells x) m));
      each = each n cells;
      shared = shared n cells;
      counted = let count = counted n cells in omega arith;
    }
