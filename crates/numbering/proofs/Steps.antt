-- Cell by cell: what an earlier cell has keeps its number, and what is new gets the next. Assumes nothing.
use Prim.Native.Nat.{ℕ, zero, suc, ◌+◌, ◌*◌, ◌<◌}
use native.Mathlib.Nat.{eq-or-lt_of_le, le_of_suc-le-suc, not-suc-le-zero, mul-suc}
use native.Mathlib.Numerals.{add-one}
use native.Mathlib.Omega.{arith}
use mathlib.Core.Path.{◌≡◌, refl, sym, ap, ◌∙◌}
use mathlib.Core.Bool.{Bool, true, false, ◌||◌, or-true, or-false}
use mathlib.Core.List.{List, [], ◌∷◌, ◌++◌, append_assoc, append-nil}
use mathlib.Core.Logic.{⊎_elim}
use lib.ListN.{length, get_or, length-append, get_or-append}
use lib.Seq.{get_or-append-add}
use Rattle.numbers.specs.Rule.{tabulate, place_of}
use Rattle.numbers.proofs.Cases.{never, is_false}
use Rattle.numbers.proofs.Prefix.{tabulate_past}
use Rattle.numbers.proofs.Stored.{tabulate_more}
use Rattle.numbers.specs.FirstMet.{among, meet, different, Sameness}
use Rattle.numbering.specs.Refinement.{Thing, same_by, chain, things, given_by, number_by, next_by}
use Rattle.numbers.proofs.FirstMet.{among_append, among_meet, meet_append, meet_old, meet_new, first_met, place_below, place_alike, place_tells}
use Rattle.numbering.proofs.Same.{same_by_lem}

pub chain_past : {A : Type 0} (c n : ℕ) (f : ℕ → List A) → c < n → (rest : List A) × (chain n f ≡ chain c f ++ (f c ++ rest))
unfolding chain
chain_past c zero f h = absurd (not-suc-le-zero h)
chain_past c (suc n) f h =
    ⊎_elim
    (λ (e : c ≡ n). ([], rw (e, append-nil)))
    (λ (less : c < n).
    let more = chain_past c n f less in
    (more.0 ++ f n, rw (more.1, append_assoc, append_assoc)))
    (eq-or-lt_of_le (le_of_suc-le-suc h))

pub chain_length : {A : Type 0} (w : ℕ) (f : ℕ → List A) → ((d : ℕ) → length (f d) ≡ w) → (c : ℕ) → length (chain c f) ≡ w * c
unfolding chain
chain_length w f h zero = let none : 0 ≡ w * 0 = omega arith in none
chain_length w f h (suc c) = rw (length-append (chain c f) (f c), h c, chain_length w f h c, mul-suc)

-- what stands in the part of one cell, where each part is w long
pub chain_at : {A : Type 0} (w : ℕ) (f : ℕ → List A) → ((c : ℕ) → length (f c) ≡ w) → (d : A) (c n j : ℕ) → c < n → j < w
    → get_or (chain n f) (w * c + j) d ≡ get_or (f c) j d
chain_at w f long d c n j below inside =
    let past = chain_past c n f below in
    rw (past.1, ← chain_length w f long c)
    (get_or-append-add (chain c f) (f c ++ past.0) j d ∙ get_or-append (f c) past.0 d j (rw (long c) inside))

either : (a b : Bool) {A : Type 0} → (a ≡ true → A) → (b ≡ true → A) → (a || b) ≡ true → A
either true b f g h = f refl
either false b f g h = g h

-- what is among lists by rule stands at an index, and the other way round
module _ {A : Type 0} (same : A → A → Bool) (x : A) where
  pub tabulate_found : (w : ℕ) (f : ℕ → A) → among same (tabulate w f) x ≡ true → (k : ℕ) × (k < w) × (same (f k) x ≡ true)
  tabulate_found zero f h = never (sym h)
  tabulate_found (suc w) f h =
      either (same (f 0) x) (among same (tabulate w (λ (k : ℕ). f (suc k))) x)
      (λ t. (0, omega arith, t))
      (λ t. let more = tabulate_found w (λ (k : ℕ). f (suc k)) t in (suc more.0, omega (arith, more.1), more.2))
      h

  pub tabulate_has : (w : ℕ) (f : ℕ → A) (k : ℕ) → k < w → same (f k) x ≡ true → among same (tabulate w f) x ≡ true
  tabulate_has zero f k below t = absurd (not-suc-le-zero below)
  tabulate_has (suc w) f zero below t = rw t
  tabulate_has (suc w) f (suc k) below t = rw (tabulate_has w (λ (k : ℕ). f (suc k)) k (le_of_suc-le-suc below) t) (or-true (same (f 0) x))

  pub chain_found : (c : ℕ) (f : ℕ → List A) → among same (chain c f) x ≡ true → (d : ℕ) × (d < c) × (among same (f d) x ≡ true)
  unfolding chain
  chain_found zero f h = never (sym h)
  chain_found (suc c) f h =
      either (among same (chain c f) x) (among same (f c) x)
      (λ t. let more = chain_found c f t in (more.0, omega (arith, more.1), more.2))
      (λ t. (c, omega arith, t))
      (sym (among_append same (chain c f) (f c) x) ∙ h)

  pub chain_has : (c : ℕ) (f : ℕ → List A) (d : ℕ) → d < c → among same (f d) x ≡ true → among same (chain c f) x ≡ true
  unfolding chain
  chain_has zero f d below t = absurd (not-suc-le-zero below)
  chain_has (suc c) f d below t =
      among_append same (chain c f) (f c) x
      ∙ ⊎_elim
      (λ (e : d ≡ c). let here : among same (f c) x ≡ true = rw e at t in rw here (or-true (among same (chain c f) x)))
      (λ (less : d < c). rw (chain_has c f d less t))
      (eq-or-lt_of_le (le_of_suc-le-suc below))

-- the next number after these have been met
abbrev pub next_after : (List ℕ → List ℕ → Bool) → ℕ → List Thing → ℕ
next_after one n met = n + length (different (same_by one) met)

-- The numbering, whichever rule faces go by.
module _ (one : List ℕ → List ℕ → Bool) (fit : Sameness one) where
  abbrev same : Thing → Thing → Bool
  same = same_by one

  fit_things : Sameness same
  fit_things = same_by_lem one fit

  -- The things of one row, the edges or the faces of cell c, after what is met before them: `earlier`.
  module _ (n : ℕ) (cells : List ℕ) (w : ℕ) (row : ℕ → Thing) (earlier later : List Thing) (whole : things cells ≡ earlier ++ (tabulate w row ++ later))
      (differ : (k i : ℕ) → k < i → i < w → same (row k) (row i) ≡ false) where
    not_own : (i : ℕ) → i < w → among same (tabulate i row) (row i) ≡ false
    not_own i h =
        is_false (among same (tabulate i row) (row i))
        (λ t. let own = tabulate_found same (row i) i row t in never (sym own.2 ∙ differ own.0 i own.1 h))

    met : (i : ℕ) → i < w → among same (different same (earlier ++ tabulate i row)) (row i) ≡ among same earlier (row i)
    met i h =
        among_meet same fit_things [] (earlier ++ tabulate i row) (row i)
        ∙ among_append same earlier (tabulate i row) (row i)
        ∙ rw (not_own i h, or-false)

    one_more : (i : ℕ) → different same (earlier ++ tabulate (i + 1) row) ≡ meet same (different same (earlier ++ tabulate i row)) (row i ∷ [])
    one_more i =
        rw (add-one, tabulate_more i row, ← append_assoc earlier (tabulate i row) (row i ∷ []))
        (meet_append same [] (earlier ++ tabulate i row) (row i ∷ []))

    pub known : (i : ℕ) → i < w → among same earlier (row i) ≡ true →
        next_after one n (earlier ++ tabulate (i + 1) row) ≡ next_after one n (earlier ++ tabulate i row)
    known i h t = rw (one_more i, meet_old same (different same (earlier ++ tabulate i row)) (row i) (met i h ∙ t))

    at_once : (i : ℕ) → i < w → (rest : List Thing) × (given_by one cells ≡ meet same (different same (earlier ++ tabulate i row)) (row i ∷ rest))
    unfolding given_by
    at_once i h =
        let past = tabulate_past i w row h in
        let rest = past.0 ++ later in
        let split : earlier ++ (tabulate w row ++ later) ≡ (earlier ++ tabulate i row) ++ (row i ∷ rest) =
        rw (past.1, append_assoc (tabulate i row) (row i ∷ past.0) later, append_assoc earlier (tabulate i row) (row i ∷ rest)) in
        (rest, ap (different same) (whole ∙ split) ∙ meet_append same [] (earlier ++ tabulate i row) (row i ∷ rest))

    pub new : (i : ℕ) → i < w → among same earlier (row i) ≡ false →
        (number_by one n cells (row i) ≡ next_after one n (earlier ++ tabulate i row))
        × (next_after one n (earlier ++ tabulate (i + 1) row) ≡ next_after one n (earlier ++ tabulate i row) + 1)
    new i h f =
        let so_far = different same (earlier ++ tabulate i row) in
        let none : among same so_far (row i) ≡ false = met i h ∙ f in
        let given_so = at_once i h in
        let longer : length (meet same so_far (row i ∷ [])) ≡ length so_far + 1 =
        rw (meet_new same so_far (row i) none) (length-append so_far (row i ∷ [])) in (
          ap (λ (p : ℕ). n + p) (ap (λ (l : List Thing). place_of same l (row i)) given_so.1 ∙ first_met same fit_things so_far given_so.0 (row i) none),
          ap (λ (l : List Thing). n + length l) (one_more i) ∙ omega (arith, longer),
        )

  -- What an earlier cell has keeps its number.
  pub keeps : (n : ℕ) (cells : List ℕ) (x y : Thing) → same x y ≡ true → number_by one n cells x ≡ number_by one n cells y
  keeps n cells x y h = ap (λ (p : ℕ). n + p) (place_alike same fit_things (given_by one cells) x y h)

  -- What is met has a number below the next free one, and what has one number is the same.
  pub is_given : (cells : List ℕ) (x : Thing) → among same (things cells) x ≡ true → among same (given_by one cells) x ≡ true
  unfolding given_by
  is_given cells x m = among_meet same fit_things [] (things cells) x ∙ m

  pub is_below : (n : ℕ) (cells : List ℕ) (x : Thing) → among same (things cells) x ≡ true → number_by one n cells x < next_by one n cells
  is_below n cells x m = let below = place_below same (given_by one cells) x (is_given cells x m) in omega arith

  pub tells : (n : ℕ) (cells : List ℕ) (x y : Thing) → among same (things cells) x ≡ true → among same (things cells) y ≡ true
      → number_by one n cells x ≡ number_by one n cells y → same x y ≡ true
  tells n cells x y mx my e = place_tells same fit_things (given_by one cells) x y (is_given cells x mx) (is_given cells y my) (omega arith)
