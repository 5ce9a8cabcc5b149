-- What is first met, for any sameness: what is met stays met at its place, and a new thing is put behind. Assumes nothing.
use Prim.Native.Nat.{ℕ, zero, suc, ◌<◌}
use native.Mathlib.Nat.{le_of_suc-le-suc, not-suc-le-zero, eq-or-lt_of_le}
use native.Mathlib.Numerals.{add-one}
use native.Mathlib.Omega.{arith}
use mathlib.Core.Path.{◌≡◌, refl, sym, ap, ◌∙◌}
use mathlib.Core.Bool.{Bool, true, false, not, cond, ◌||◌, or_assoc, or-false, or-true}
use mathlib.Core.List.{List, [], ◌∷◌, ◌++◌, append_assoc, append-nil}
use mathlib.Core.Logic.{⊎_elim}
use borrow.Author.Tests.{eqb-true}
use lib.Dec.{eqb}
use lib.ListN.{length, get_or, length-append}
use Rattle.numbers.proofs.All.{left_true, right_true}
use Rattle.numbers.proofs.Cases.{cases, never, is_false}
use Rattle.numbers.proofs.Every.{Every, every_append, every_then, every_both}
use Rattle.numbers.specs.Rule.{place_of}
use Rattle.numbers.specs.FirstMet.{among, apart, meet, Sameness}

module _ {A : Type 0} (same : A → A → Bool) where
  pub among_append : (xs ys : List A) (x : A) → among same (xs ++ ys) x ≡ (among same xs x || among same ys x)
  among_append [] ys x = refl
  among_append (y ∷ xs) ys x = ap (λ (t : Bool). same y x || t) (among_append xs ys x) ∙ sym (or_assoc (same y x) (among same xs x) (among same ys x))

  place_front : (xs ys : List A) (x : A) → among same xs x ≡ true → place_of same (xs ++ ys) x ≡ place_of same xs x
  place_front [] ys x h = never (sym h)
  place_front (y ∷ xs) ys x h = cases (same y x) (λ t. rw t) (λ f. rw f (ap suc (place_front xs ys x (rw f at h))))

  place_behind : (xs ys : List A) (x : A) → same x x ≡ true → among same xs x ≡ false → place_of same (xs ++ (x ∷ ys)) x ≡ length xs
  place_behind [] ys x self h = rw self
  place_behind (y ∷ xs) ys x self h =
      cases (same y x)
      (λ t. never (rw t at h))
      (λ f. rw f (ap suc (place_behind xs ys x self (rw f at h))))

  pub place_below : (xs : List A) (x : A) → among same xs x ≡ true → place_of same xs x < length xs
  place_below [] x h = never (sym h)
  place_below (y ∷ xs) x h =
      cases (same y x)
      (λ t. rw t (omega arith))
      (λ f. let below = place_below xs x (rw f at h) in rw f (omega arith))

  -- at a thing's place stands what is the same
  pub place_same : (xs : List A) (x d : A) → place_of same xs x < length xs → same (get_or xs (place_of same xs x) d) x ≡ true
  place_same [] x d within = absurd (not-suc-le-zero within)
  place_same (y ∷ xs) x d within = cases (same y x) (λ t. rw t t) (λ f. rw f (place_same xs x d (le_of_suc-le-suc (rw f at within))))

  -- what stands in a list is among it
  pub member_among : ((x : A) → same x x ≡ true) → (xs : List A) (d : A) (k : ℕ) → k < length xs → among same xs (get_or xs k d) ≡ true
  member_among self [] d k below = absurd (not-suc-le-zero below)
  member_among self (x ∷ xs) d zero below = rw (self x)
  member_among self (x ∷ xs) d (suc k) below = rw (member_among self xs d k (le_of_suc-le-suc below)) (or-true (same x (get_or xs k d)))

  pub meet_append : (met xs ys : List A) → meet same met (xs ++ ys) ≡ meet same (meet same met xs) ys
  unfolding meet
  meet_append met [] ys = refl
  meet_append met (x ∷ xs) ys = meet_append (cond (among same met x) met (met ++ (x ∷ []))) xs ys

  -- one thing more
  pub meet_old : (met : List A) (x : A) → among same met x ≡ true → meet same met (x ∷ []) ≡ met
  unfolding meet
  meet_old met x h = rw h

  pub meet_new : (met : List A) (x : A) → among same met x ≡ false → meet same met (x ∷ []) ≡ met ++ (x ∷ [])
  unfolding meet
  meet_new met x h = rw h

  grows : (xs met : List A) → (ys : List A) × (meet same met xs ≡ met ++ ys)
  unfolding meet
  grows [] met = ([], sym (append-nil met))
  grows (x ∷ xs) met =
      cases (among same met x)
      (λ t. rw t (grows xs met))
      (λ f. let more = grows xs (met ++ (x ∷ [])) in (x ∷ more.0, rw f (more.1 ∙ append_assoc met (x ∷ []) more.0)))

  pub place_kept : (met xs : List A) (x : A) → among same met x ≡ true → place_of same (meet same met xs) x ≡ place_of same met x
  place_kept met xs x h = let more = grows xs met in rw more.1 (place_front met more.0 x h)

-- at the place of a number stands the number
pub place_holds : (xs : List ℕ) (x : ℕ) → place_of eqb xs x < length xs → get_or xs (place_of eqb xs x) 0 ≡ x
place_holds xs x within = eqb-true (get_or xs (place_of eqb xs x) 0) x (place_same eqb xs x 0 within)

module _ {A : Type 0} (same : A → A → Bool) (s : Sameness same) where
  -- things that are the same are the same as the same things
  pub alike : (x y z : A) → same x y ≡ true → same z x ≡ same z y
  alike x y z h =
      cases (same z x)
      (λ t. t ∙ sym (s.across z x y t h))
      (λ f. cases (same z y) (λ t. never (sym (s.across z y x t (s.swap y x ∙ h)) ∙ f)) (λ g. f ∙ sym g))

  pub among_alike : (xs : List A) (x y : A) → same x y ≡ true → among same xs x ≡ among same xs y
  among_alike [] x y h = refl
  among_alike (z ∷ xs) x y h = rw (alike x y z h, among_alike xs x y h)

  pub place_alike : (xs : List A) (x y : A) → same x y ≡ true → place_of same xs x ≡ place_of same xs y
  place_alike [] x y h = refl
  place_alike (z ∷ xs) x y h = rw (alike x y z h, place_alike xs x y h)

  -- what has one place is the same
  pub place_tells : (xs : List A) (x y : A) → among same xs x ≡ true → among same xs y ≡ true → place_of same xs x ≡ place_of same xs y → same x y ≡ true
  place_tells [] x y hx hy e = never (sym hx)
  place_tells (z ∷ xs) x y hx hy e =
      cases (same z x)
      (λ t.
      cases (same z y)
      (λ u. s.across x z y (s.swap x z ∙ t) u)
      (λ g. let q : 0 ≡ suc (place_of same xs y) = rw (t, g) at e in absurd (omega arith)))
      (λ f.
      cases (same z y)
      (λ u. let q : suc (place_of same xs x) ≡ 0 = rw (f, u) at e in absurd (omega arith))
      (λ g. let q : suc (place_of same xs x) ≡ suc (place_of same xs y) = rw (f, g) at e in place_tells xs x y (rw f at hx) (rw g at hy) (omega arith)))

  either : (a b c : Bool) → (b ≡ true → a ≡ true) → (a || c) ≡ (a || (b || c))
  either true b c h = refl
  either false true c h = never (sym (h refl))
  either false false c h = refl

  -- what has been met is what was met before and what is met now
  pub among_meet : (met xs : List A) (x : A) → among same (meet same met xs) x ≡ (among same met x || among same xs x)
  unfolding meet
  among_meet met [] x = sym (or-false (among same met x))
  among_meet met (y ∷ xs) x =
      cases (among same met y)
      (λ t. rw t (among_meet met xs x ∙ either (among same met x) (same y x) (among same xs x) (λ h. sym (among_alike met y x h) ∙ t)))
      (λ f.
      rw f (among_meet (met ++ (y ∷ [])) xs x
      ∙ rw (among_append same met (y ∷ []) x, or-false) (or_assoc (among same met x) (same y x) (among same xs x))))

  -- a new thing is put behind those that are met, and stays there
  pub first_met : (met xs : List A) (x : A) → among same met x ≡ false → place_of same (meet same met (x ∷ xs)) x ≡ length met
  unfolding meet
  first_met met xs x h =
      let there : among same (met ++ (x ∷ [])) x ≡ true = rw (among_append same met (x ∷ []) x, h, s.self x) in
      rw h (place_kept same (met ++ (x ∷ [])) xs x there ∙ place_behind same met [] x (s.self x) h)

  abbrev Full : List A → Type 0
  Full met = (k : ℕ) → k < length met → (x : A) × (among same met x ≡ true) × (place_of same met x ≡ k)

  fuller : (met : List A) (x : A) → among same met x ≡ false → Full met → Full (met ++ (x ∷ []))
  fuller met x h full k below =
      let there : among same (met ++ (x ∷ [])) x ≡ true = rw (among_append same met (x ∷ []) x, h, s.self x) in
      let long : length (met ++ (x ∷ [])) ≡ suc (length met) = rw length-append (add-one (length met)) in
      ⊎_elim
      (λ (e : k ≡ length met). (x, there, place_behind same met [] x (s.self x) h ∙ sym e))
      (λ (less : k < length met).
      let old = full k less in
      (old.0, rw (among_append same met (x ∷ []) old.0, old.1), place_front same met (x ∷ []) old.0 old.1 ∙ old.2))
      (eq-or-lt_of_le (le_of_suc-le-suc (rw long at below)))

  -- every place has its thing
  pub every_place : (xs met : List A) → Full met → Full (meet same met xs)
  unfolding meet
  every_place [] met full = full
  every_place (x ∷ xs) met full =
      cases (among same met x)
      (λ t. rw t (every_place xs met full))
      (λ f. rw f (every_place xs (met ++ (x ∷ [])) (fuller met x f full)))

  pub none_yet : Full []
  none_yet k below = absurd (not-suc-le-zero below)

-- Two samenesses that agree on what is met meet the same things, at the same places.
module _ {A : Type 0} (same same' : A → A → Bool) (P : A → Type 0) (agree : (x y : A) → P x → P y → same x y ≡ same' x y) where
  among_agree : (xs : List A) (x : A) → Every P xs → P x → among same xs x ≡ among same' xs x
  among_agree [] x h k = refl
  among_agree (y ∷ xs) x h k = rw (agree y x h.0 k, among_agree xs x h.1 k)

  pub place_agree : (xs : List A) (x : A) → Every P xs → P x → place_of same xs x ≡ place_of same' xs x
  place_agree [] x h k = refl
  place_agree (y ∷ xs) x h k = rw (agree y x h.0 k, place_agree xs x h.1 k)

  pub meet_agree : (met xs : List A) → Every P met → Every P xs → (meet same met xs ≡ meet same' met xs) × Every P (meet same met xs)
  unfolding meet
  meet_agree met [] m h = (refl, m)
  meet_agree met (x ∷ xs) m h =
      let alike = among_agree met x m h.0 in
      cases (among same met x)
      (λ t. rw (t, sym alike ∙ t) (meet_agree met xs m h.1))
      (λ f. rw (f, sym alike ∙ f) (meet_agree (met ++ (x ∷ [])) xs (every_append P met (x ∷ []) m (h.0, tt)) h.1))

-- For what no thing has with itself, and has either way round: no two have it exactly when none has it with any.
module _ {A : Type 0} (pair : A → A → Bool) (never_itself : (x : A) → pair x x ≡ false) (either_way : (x y : A) → pair x y ≡ pair y x) where
  with_none : (xs : List A) (x : A) → among pair xs x ≡ false → Every (λ (y : A). pair y x ≡ false) xs
  with_none [] x h = tt
  with_none (y ∷ xs) x h =
      let not_this : pair y x ≡ false = is_false (pair y x) (λ t. never (rw t at h)) in
      (not_this, with_none xs x (rw not_this at h))

  pub apart_none : (xs : List A) → apart pair xs ≡ true → Every (λ (x : A). among pair xs x ≡ false) xs
  apart_none [] h = tt
  apart_none (x ∷ xs) h =
      let fresh : among pair xs x ≡ false = is_false (among pair xs x) (λ t. never (sym (rw t at (left_true (not (among pair xs x)) (apart pair xs) h)))) in (
        rw (never_itself x) fresh,
        every_both (λ (y : A). pair y x ≡ false) (λ (y : A). among pair xs y ≡ false) (λ (y : A). among pair (x ∷ xs) y ≡ false)
            (λ y one others. rw (either_way x y ∙ one) others)
            xs (with_none xs x fresh) (apart_none xs (right_true (not (among pair xs x)) (apart pair xs) h)),
      )

  pub none_apart : (xs : List A) → Every (λ (x : A). among pair xs x ≡ false) xs → apart pair xs ≡ true
  none_apart [] h = refl
  none_apart (x ∷ xs) h =
      let rest : (y : A) → among pair (x ∷ xs) y ≡ false → among pair xs y ≡ false =
      λ y none. is_false (among pair xs y) (λ t. never (sym (or-true (pair x y)) ∙ rw t at none)) in
      rw (rest x h.0)
      (none_apart xs (every_then (λ (y : A). among pair (x ∷ xs) y ≡ false) (λ (y : A). among pair xs y ≡ false) rest xs h.1))
