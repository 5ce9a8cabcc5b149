-- How a ladder of refusals comes to an answer, what 0 tells of it, and which numbers the ladder has. Assumes nothing.
use Prim.Native.Nat.{ℕ}
use native.Mathlib.Omega.{arith}
use mathlib.Core.Path.{◌≡◌, refl, sym, ◌∙◌, subst}
use mathlib.Core.Bool.{Bool, true, false, not, cond}
use mathlib.Core.List.{List}
use lib.Dec.{T}
use Rattle.answer.specs.Answer.{Answer, answered, refused, and_then, Leaves, is_one_of, RefusesBy, ZeroTellsAnAnswer}

-- ---- two answers that are one
pub answered_same : {A : Type 0} {v w : A} → answered v ≡ answered w → v ≡ w
answered_same e = cc

pub never : {A : Type 0} (n : ℕ) (v : A) → refused n ≡ answered v → ⊥
never n v e = let z : ◌≡◌ {A = ℕ} 0 1 = cc in omega arith

-- ---- every rung of a ladder was passed
pub record Passed {A : Type 0} (good : Bool) (rest : Answer A) (v : A) : Type 0 where
  pub test : T good
  pub on : rest ≡ answered v

pub passed : {A : Type 0} (good : Bool) (n : ℕ) (rest : Answer A) (v : A) → cond (not good) (refused n) rest ≡ answered v → Passed good rest v
passed true n rest v e = record { test = tt; on = e }
passed false n rest v e = absurd (never n v e)

pub pass : {A : Type 0} (good : Bool) (n : ℕ) (rest : Answer A) (v : A) → T good → rest ≡ answered v → cond (not good) (refused n) rest ≡ answered v
pass true n rest v h e = e
pass false n rest v h e = absurd h

-- the same of a test that is true where it refuses
pub unless : {A : Type 0} (bad : Bool) (n : ℕ) (rest : Answer A) (v : A) → cond bad (refused n) rest ≡ answered v → (bad ≡ false) × (rest ≡ answered v)
unless true n rest v e = absurd (never n v e)
unless false n rest v e = (refl, e)

pub record Answered {A B : Type 0} (x : Answer A) (f : A → Answer B) (v : B) : Type 0 where
  pub value : A
  pub is : x ≡ answered value
  pub next : f value ≡ answered v

pub then_answered : {A B : Type 0} (x : Answer A) (f : A → Answer B) (v : B) → and_then x f ≡ answered v → Answered x f v
then_answered (answered a) f v e = record { value = a; is = refl; next = e }
then_answered (refused n) f v e = absurd (never n v e)

-- what is made of an answer refuses where the answer does
pub then_refused : {A B : Type 0} (x : Answer A) (f : A → B) (n : ℕ) → refused n ≡ and_then x (λ (a : A). answered (f a)) → x ≡ refused n
then_refused (answered a) f n e = absurd (never n (f a) e)
then_refused (refused m) f n e = cc

-- what follows a ladder stands behind its last rung
pub then_unless : {A B : Type 0} (bad : Bool) (n : ℕ) (rest : Answer A) (f : A → Answer B)
    → and_then (cond bad (refused n) rest) f ≡ cond bad (refused n) (and_then rest f)
then_unless true n rest f = refl
then_unless false n rest f = refl

-- ---- what 0 tells
none_is_zero : (ns : List ℕ) (n : ℕ) → T (not (is_one_of ns 0)) → T (is_one_of ns n) → n ≡ 0 → ⊥
none_is_zero ns n without one zero = both (is_one_of ns 0) without (subst (λ (k : ℕ). T (is_one_of ns k)) zero one)
  where
    both : (b : Bool) → T (not b) → T b → ⊥
    both true h g = h
    both false h g = g

pub zero_tells_an_answer : (A : Type 0) → ZeroTellsAnAnswer A
zero_tells_an_answer A ns (answered v) without one zero = (v, refl)
zero_tells_an_answer A ns (refused n) without one zero = absurd (none_is_zero ns n without one zero)

pub leaves_zero : {A : Type 0} (ns : List ℕ) (a : Answer A) (r : ℕ) (old new : A) → T (not (is_one_of ns 0)) → RefusesBy ns a → Leaves a r old new → r ≡ 0
    → a ≡ answered new
leaves_zero ns (answered v) r old new without one wrote zero = let same : new ≡ v = wrote.1 in cc
leaves_zero ns (refused n) r old new without one wrote zero = absurd (none_is_zero ns n without one (sym wrote.0 ∙ zero))

pub leaves_answered : {A : Type 0} (a : Answer A) (r : ℕ) (old new v : A) → Leaves a r old new → a ≡ answered v → (r ≡ 0) × (new ≡ v)
leaves_answered (answered w) r old new v wrote e = (wrote.0, wrote.1 ∙ answered_same e)
leaves_answered (refused n) r old new v wrote e = absurd (never n v e)

-- ---- the numbers of a ladder
module _ {A : Type 0} (ns : List ℕ) where
  pub refuses_unless : (b : Bool) (n : ℕ) (rest : Answer A) → T (is_one_of ns n) → RefusesBy ns rest → RefusesBy ns (cond b (refused n) rest)
  refuses_unless true n rest one others = one
  refuses_unless false n rest one others = others

  pub refuses_else : (b : Bool) (a : A) (n : ℕ) → T (is_one_of ns n) → RefusesBy ns (cond b (answered a) (refused n))
  refuses_else true a n one = tt
  refuses_else false a n one = one

  pub refuses_then : {B : Type 0} (x : Answer A) (f : A → Answer B) → RefusesBy ns x → ((a : A) → RefusesBy ns (f a)) → RefusesBy ns (and_then x f)
  refuses_then (answered a) f one others = others a
  refuses_then (refused n) f one others = one
