-- The numbers of one cell's edges or faces: one key more, and that they go on with a numbering that keeps to the rule. Assumes nothing.
use Prim.Native.Nat.{ℕ, zero, suc, ◌+◌, ◌-◌, ◌≤◌, ◌<◌}
use native.Mathlib.Nat.{zero-add, add-zero}
use native.Mathlib.Numerals.{add-one}
use native.Mathlib.Omega.{arith}
use mathlib.Core.Path.{◌≡◌, sym, ap, ◌∙◌}
use mathlib.Core.Bool.{true, false}
use mathlib.Core.List.{List}
use borrow.Author.Tests.{eqb-true, eqb-false, ltb-true, ltb-false}
use lib.Dec.{eqb, ltb}
use lib.ListN.{length, get_or, take, set, length-take, take-append-drop, get_or-append}
use lib.Seq.{get_or-set_same, get_or-set_other, get_or-take, get_or-append-add}
use Rattle.std.specs.Prelude.{Some, None}
use Rattle.numbers.specs.Rule.{tabulate, place_of}
use Rattle.numbers.proofs.Cases.{cases}
use Rattle.numbers.proofs.FirstMet.{place_holds}
use Rattle.numbers.proofs.Stored.{length_tabulate, stored_behind}
use Rattle.numbers.proofs.Tabulate.{tabulate_at}
use Rattle.keys.specs.Keys.{keys_in}
use Rattle.refine.specs.Search.{is_old, number_beside, found_in, new_from, number_of, numbered, Agrees}
use Rattle.refine.proofs.Places.{new_missing, found_old, found_new}
use Rattle.refine.proofs.Rules.{Rule}

-- one number more
pub agrees_more : (numbers : List ℕ) (p q x : ℕ) (value : ℕ → ℕ) → q ≡ p + 1 → p < length numbers → x ≡ value p → Agrees numbers p value →
    Agrees (set numbers p x) q value
agrees_more numbers p q x value one room e old j below =
    cases (eqb j p)
    (λ t. let here = eqb-true j p t in rw here (get_or-set_same numbers p x 0 room ∙ e))
    (λ f. let other : j ≡ p → ⊥ = eqb-false j p f in get_or-set_other numbers p j x 0 other ∙ old j (omega arith))

-- the keys of a list of at most 1,024 numbers are all there
pub keys_agree : (keys list : List ℕ) (m n : ℕ) (key_at : ℕ → ℕ) → m ≡ n → keys ≡ keys_in list m key_at → Agrees keys n key_at
keys_agree keys list m n key_at all e j below =
    let within : j < m = omega arith in
    let inside : j < length (tabulate m key_at) = rw (length_tabulate m key_at) within in
    ap (λ (l : List ℕ). get_or l j 0) e ∙ get_or-append (tabulate m key_at) _ 0 j inside ∙ tabulate_at m key_at 0 j within

-- ---- one key more
module _ (keys old : List ℕ) (m first : ℕ) where
  pub numbered_none : old ≡ numbered keys old m first 0
  unfolding numbered
  numbered_none = rw add-zero (sym (take-append-drop m old))

  -- the first m numbers are as they were
  kept : (i j : ℕ) → m ≤ length old → j < m → get_or (numbered keys old m first i) j 0 ≡ get_or old j 0
  unfolding numbered
  kept i j room below =
      get_or-append (take m old) _ 0 j (rw length-take (omega arith)) ∙ get_or-take m old j 0 below

  module _ (numbers : List ℕ) (i : ℕ) (room : m + i < length old) (held : numbers ≡ numbered keys old m first i) where
    store : (x : ℕ) → x ≡ number_of keys old m first i → set numbers (m + i) x ≡ numbered keys old m first (i + 1)
    unfolding numbered
    store x e = rw (held, e) (stored_behind (number_of keys old m first) old m i 0 room)

    -- the search in the numbers so far finds what the numbers at the start have
    pub keeps : (x : ℕ) → Some x ≡ found_in keys numbers m (get_or keys (m + i) 0)
        → (set numbers (m + i) x ≡ numbered keys old m first (i + 1)) × (new_from keys m (i + 1) ≡ new_from keys m i)
    keeps x e =
        let k = get_or keys (m + i) 0 in
        let found = found_old keys numbers m k x e in
        let below = ltb-true (place_of eqb keys k) m found.0 in
        let beside = ap (λ (l : List ℕ). get_or l (place_of eqb keys k) 0) held ∙ kept i (place_of eqb keys k) (omega arith) below in
        (store x (rw found.0 (found.1 ∙ beside)), rw (add-one, found.0) (zero-add (new_from keys m i)))

    pub gets : (x : ℕ) → x ≡ first + new_from keys m i → None ≡ found_in keys numbers m (get_or keys (m + i) 0)
        → (set numbers (m + i) x ≡ numbered keys old m first (i + 1)) × (new_from keys m (i + 1) ≡ new_from keys m i + 1)
    gets x next e =
        let found = found_new keys numbers m (get_or keys (m + i) 0) e in
        (store x (rw found next), rw (add-one, found) (omega arith))

-- ---- A numbering that keeps to the rule is what the keys are given.
module _ (keys old : List ℕ) (m w first : ℕ) (value before : ℕ → ℕ) (rule : Rule keys m w value before) (inside : m + w ≤ length keys)
    (agrees : Agrees old m value) (start : first ≡ before 0) where
  abbrev k : ℕ → ℕ
  k i = get_or keys (m + i) 0

  stays : (i : ℕ) → i < w → is_old keys m (k i) ≡ true → (value (m + i) ≡ number_beside keys old (k i)) × (before (i + 1) ≡ before i)
  stays i h t =
      let place = place_of eqb keys (k i) in
      let below = ltb-true place m t in
      let same = rule.old i place h below (place_holds keys (k i) (omega arith)) in
      (same.0 ∙ sym (agrees place below), same.1)

  comes : (i : ℕ) → i < w → is_old keys m (k i) ≡ false → (value (m + i) ≡ before i) × (before (i + 1) ≡ before i + 1)
  comes i h f = rule.new i h (new_missing keys m (k i) (omega arith) f)

  next_is : (i : ℕ) → i ≤ w → first + new_from keys m i ≡ before i
  next_is zero h = add-zero first ∙ start
  next_is (suc i) h =
      let so_far = next_is i (omega arith) in
      let next : before (i + 1) ≡ before (suc i) = ap before (add-one i) in
      cases (is_old keys m (k i))
      (λ t. let same = (stays i h t).1 in rw t (omega arith))
      (λ f. let more = (comes i h f).1 in rw f (omega arith))

  number_is : (i : ℕ) → i < w → number_of keys old m first i ≡ value (m + i)
  number_is i h =
      cases (is_old keys m (k i))
      (λ t. rw t (sym (stays i h t).0))
      (λ f. rw f (next_is i (omega arith) ∙ sym (comes i h f).0))

  pub goes_on : (new : List ℕ) (after : ℕ) → m + w ≤ length old → new ≡ numbered keys old m first w → after ≡ first + new_from keys m w
      → Agrees new (m + w) value × (after ≡ before w)
  unfolding numbered
  goes_on new after room is next =
      let long : length (take m old) ≡ m = rw length-take (omega arith) in (
        (λ j below.
            ap (λ (l : List ℕ). get_or l j 0) is
            ∙ cases (ltb j m)
            (λ t. let less = ltb-true j m t in kept keys old m first w j (omega arith) less ∙ agrees j less)
            (λ f.
            let most = ltb-false j m f in
            let i = j - m in
            let at : j ≡ m + i = omega arith in
            let there : j ≡ length (take m old) + i = omega arith in
            let short : i < length (tabulate w (number_of keys old m first)) = rw (length_tabulate w (number_of keys old m first)) (omega arith) in
            ap (λ (p : ℕ). get_or (numbered keys old m first w) p 0) there
            ∙ get_or-append-add (take m old) _ i 0
            ∙ get_or-append (tabulate w (number_of keys old m first)) _ 0 i short
            ∙ tabulate_at w (number_of keys old m first) 0 i (omega arith)
            ∙ number_is i (omega arith)
            ∙ ap value (sym at))),
        next ∙ next_is w (omega arith),
      )
