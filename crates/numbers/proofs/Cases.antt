-- Cases on a test, each with what it says, and the ways to say that a test passes or fails. Assumes nothing.
use Prim.Native.Nat.{ℕ}
use mathlib.Core.Path.{◌≡◌, refl, sym, ◌∙◌}
use mathlib.Core.Bool.{Bool, true, false, not, true≢false}
use borrow.Author.Tests.{eq-eqb, ne_eqb, eqb-true, eqb-false}
use lib.Dec.{T, eqb}

pub cases {ℓ} : {A : Type ℓ} (t : Bool) → (t ≡ true → A) → (t ≡ false → A) → A
cases true f g = f refl
cases false f g = g refl

-- no test both passes and fails
pub never {ℓ} : {A : Type ℓ} → true ≡ false → A
never e = absurd (true≢false e)

pub is_true : (t : Bool) → T t → t ≡ true
is_true true h = refl
is_true false h = absurd h

pub passes : (t : Bool) → t ≡ true → T t
passes t e = rw e tt

pub is_false : (t : Bool) → (t ≡ true → ⊥) → t ≡ false
is_false true h = absurd (h refl)
is_false false h = refl

pub fails : (t : Bool) → T (not t) → t ≡ false
fails true h = absurd h
fails false h = refl

pub eqb_sym : (a b : ℕ) → eqb a b ≡ eqb b a
eqb_sym a b =
    cases (eqb a b)
    (λ t. t ∙ sym (eq-eqb b a (sym (eqb-true a b t))))
    (λ f. f ∙ sym (ne_eqb b a (λ e. eqb-false a b f (sym e))))
