-- The place of the first key that equals k: where a search among the first m keys ends. Assumes nothing.
use Prim.Native.Nat.{ℕ, zero, suc, ◌+◌, ◌≤◌, ◌<◌}
use native.Mathlib.Nat.{le_of_suc-le-suc}
use native.Mathlib.Omega.{arith}
use mathlib.Core.Path.{◌≡◌, sym, ◌∙◌}
use mathlib.Core.Bool.{true, false}
use mathlib.Core.List.{List, [], ◌∷◌}
use borrow.Author.Tests.{eq-eqb, ne_eqb, eqb-true, eqb-false, lt-ltb, le-ltb}
use lib.Dec.{eqb}
use lib.ListN.{length, get_or}
use Rattle.std.specs.Prelude.{Some, None}
use Rattle.numbers.specs.Rule.{place_of}
use Rattle.numbers.proofs.Cases.{cases, never}
use Rattle.refine.specs.Search.{is_old, number_beside, found_in}

-- k is none of the first m keys
abbrev pub Missing : List ℕ → ℕ → ℕ → Type 0
Missing keys m k = (j : ℕ) → j < m → get_or keys j 0 ≡ k → ⊥

pub missing_more : (keys : List ℕ) (m k p : ℕ) → p ≡ m + 1 → Missing keys m k → (get_or keys m 0 ≡ k → ⊥) → Missing keys p k
missing_more keys m k p one old here j below e =
    cases (eqb j m)
    (λ t. here (rw (eqb-true j m t) at e))
    (λ f. let other : j ≡ m → ⊥ = eqb-false j m f in old j (omega arith) e)

place_past : (keys : List ℕ) (m k : ℕ) → m ≤ length keys → Missing keys m k → m ≤ place_of eqb keys k
place_past keys zero k within none = omega arith
place_past [] (suc m) k within none = absurd (omega arith)
place_past (y ∷ ys) (suc m) k within none =
    let rest = place_past ys m k (le_of_suc-le-suc within) (λ j below e. none (suc j) (omega arith) e) in
    rw (ne_eqb y k (none 0 (omega arith))) (omega arith)

place_within : (keys : List ℕ) (j k : ℕ) → j < length keys → get_or keys j 0 ≡ k → place_of eqb keys k ≤ j
place_within [] j k within e = absurd (omega arith)
place_within (y ∷ ys) zero k within e = rw (eq-eqb y k e) (omega arith)
place_within (y ∷ ys) (suc j) k within e =
    let rest = place_within ys j k (le_of_suc-le-suc within) e in
    cases (eqb y k) (λ t. rw t (omega arith)) (λ f. rw f (omega arith))

-- what is not old is missing
pub new_missing : (keys : List ℕ) (m k : ℕ) → m ≤ length keys → is_old keys m k ≡ false → Missing keys m k
new_missing keys m k within new j below e =
    let least = place_within keys j k (omega arith) e in
    let old : is_old keys m k ≡ true = lt-ltb (place_of eqb keys k) m (omega arith) in
    never (sym old ∙ new)

module _ (keys numbers : List ℕ) (m k : ℕ) (within : m ≤ length keys) where
  pub finds_nothing : Missing keys m k → None ≡ found_in keys numbers m k
  finds_nothing none = rw (le-ltb (place_of eqb keys k) m (place_past keys m k within none))

  pub finds_at : (j : ℕ) → j < m → Missing keys j k → get_or keys j 0 ≡ k → Some (get_or numbers j 0) ≡ found_in keys numbers m k
  finds_at j below none e =
      let here : place_of eqb keys k ≡ j =
      omega (arith, place_past keys j k (omega arith) none, place_within keys j k (omega arith) e) in
      rw (here, lt-ltb j m below)

-- and what was found tells whether the key is old
pub found_old : (keys numbers : List ℕ) (m k x : ℕ) → Some x ≡ found_in keys numbers m k → (is_old keys m k ≡ true) × (x ≡ number_beside keys numbers k)
found_old keys numbers m k x e = cases (is_old keys m k) (λ t. (t, let here = rw t at e in cc)) (λ f. let here = rw f at e in (cc, cc))

pub found_new : (keys numbers : List ℕ) (m k : ℕ) → None ≡ found_in keys numbers m k → is_old keys m k ≡ false
found_new keys numbers m k e = cases (is_old keys m k) (λ t. let here = rw t at e in cc) (λ f. f)
