-- Many texts, one behind another: how long all are, and the first of them. Assumes nothing.
use Prim.Native.Nat.{ℕ, zero, suc, ◌+◌, ◌*◌, ◌≤◌, ◌<◌}
use native.Mathlib.Nat.{not-suc-le-zero, mul-suc, eq-or-lt_of_le, le_of_suc-le-suc}
use native.Mathlib.Numerals.{add-one}
use native.Mathlib.Omega.{arith}
use mathlib.Core.Logic.{⊎_elim}
use mathlib.Core.Path.{◌≡◌, refl, sym, ap₂}
use mathlib.Core.List.{List, [], ◌++◌, append_assoc, append-nil}
use lib.ListN.{length, length-append}
use Rattle.buffer.specs.Put.{joined}

pub joined_none : (f : ℕ → List ℕ) → joined 0 f ≡ []
unfolding joined
joined_none f = refl

pub joined_more : (i : ℕ) (f : ℕ → List ℕ) → joined (i + 1) f ≡ joined i f ++ f i
unfolding joined
joined_more i f = rw add-one refl

more_length : (i : ℕ) (f : ℕ → List ℕ) → length (joined (suc i) f) ≡ length (joined i f) + length (f i)
unfolding joined
more_length i f = length-append (joined i f) (f i)

-- each has its room where there is room for all
pub joined_room : (n : ℕ) (f : ℕ → List ℕ) (i : ℕ) → i < n → length (joined i f) + length (f i) ≤ length (joined n f)
joined_room zero f i below = absurd (not-suc-le-zero below)
joined_room (suc n) f i below =
    ⊎_elim
    (λ (last : i ≡ n). rw last (omega (arith, more_length n f)))
    (λ (h : i < n). omega (arith, more_length n f, joined_room n f i h))
    (eq-or-lt_of_le (le_of_suc-le-suc below))

pub joined_most : (w n : ℕ) (f : ℕ → List ℕ) → ((i : ℕ) → i < n → length (f i) ≤ w) → length (joined n f) ≤ w * n
unfolding joined
joined_most w zero f few = omega arith
joined_most w (suc n) f few =
    rw (mul-suc) (omega (arith, more_length n f, joined_most w n f (λ i h. few i (omega arith)), few n (omega arith)))

pub joined_alike : (n : ℕ) (f g : ℕ → List ℕ) → ((i : ℕ) → i < n → f i ≡ g i) → joined n f ≡ joined n g
unfolding joined
joined_alike zero f g e = refl
joined_alike (suc n) f g e = ap₂ (λ (x y : List ℕ). x ++ y) (joined_alike n f g (λ i h. e i (omega arith))) (e n (omega arith))

-- ---- what a list holds to which the first i of them were appended
pub record Appended (f : ℕ → List ℕ) (old items : List ℕ) (i : ℕ) : Type 0 where
  pub is : items ≡ old ++ joined i f

module _ {f : ℕ → List ℕ} {old : List ℕ} where
  pub appended_none : Appended f old old 0
  appended_none = record { is = rw (joined_none f) (sym (append-nil old)) }

  module _ {items : List ℕ} {i : ℕ} (a : Appended f old items i) where
    pub appended_more : {next : List ℕ} → next ≡ items ++ f i → Appended f old next (i + 1)
    appended_more e = record { is = rw (joined_more i f, e, a.is) (append_assoc old (joined i f) (f i)) }

    pub appended_room : {room : ℕ} (n : ℕ) → i < n → length old + length (joined n f) ≤ room → length items + length (f i) ≤ room
    appended_room n below fits = rw (a.is, length-append) (omega (arith, joined_room n f i below))

    pub appended_all : (n : ℕ) → i ≡ n → items ≡ old ++ joined n f
    appended_all n e = rw (← e) a.is
