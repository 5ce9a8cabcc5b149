-- What an entry answers. Document 01: "A refusal returns its number and no other data." Definitions and claims only.
use Rattle.std.specs.Prelude.{ℕ, zero, suc, ◌≡◌, Bool, false, not, ◌||◌, List, [], ◌∷◌, ◌++◌, T, eqb, length, drop}

-- the values, or a refusal's number
pub data Answer (A : Type 0) : Type 0 where
  answered : A → Answer A
  refused : ℕ → Answer A

-- go on with the values; a refusal stays
abbrev pub and_then : {A B : Type 0} → Answer A → (A → Answer B) → Answer B
and_then (answered a) f = f a
and_then (refused n) f = refused n

-- n steps from a start; where one is refused, so is what follows
unfoldable pub after : {A : Type 0} → (A → Answer A) → A → ℕ → Answer A
after step start zero = answered start
after step start (suc n) = and_then (after step start n) step

-- an answer for each of a list, in its order; where one is refused, so are all
unfoldable pub each : {A B : Type 0} → (A → Answer B) → List A → Answer (List B)
each f [] = answered []
each f (x ∷ xs) = and_then (f x) (λ b. and_then (each f xs) (λ bs. answered (b ∷ bs)))

-- f tells any two values apart: what is said of f x leaves one possible x
abbrev pub LosesNothing : {A B : Type 0} → (A → B) → Type 0
LosesNothing {A = A} f = (x y : A) → f x ≡ f y → x ≡ y

-- what a function that returns r has left of a lent buffer: 0 and the values, or the refusal's number and what the buffer held
abbrev pub Leaves : {A : Type 0} → Answer A → ℕ → A → A → Type 0
Leaves (answered a) r old new = (r ≡ 0) × (new ≡ a)
Leaves (refused n) r old new = (r ≡ n) × (new ≡ old)

-- what a function that has no buffer returns
abbrev pub number_of : {A : Type 0} → Answer A → ℕ
number_of (answered a) = 0
number_of (refused n) = n

-- a refusal's number, where there is one, is one of these
abbrev pub is_one_of : List ℕ → ℕ → Bool
is_one_of [] n = false
is_one_of (m ∷ ms) n = eqb n m || is_one_of ms n

abbrev pub RefusesBy : {A : Type 0} → List ℕ → Answer A → Type 0
RefusesBy ns (answered a) = Unit {0}
RefusesBy ns (refused n) = T (is_one_of ns n)

-- So a 0 tells an answer, where it is none of the numbers.
abbrev pub ZeroTellsAnAnswer : Type 0 → Type 0
ZeroTellsAnAnswer A = (ns : List ℕ) (a : Answer A) → T (not (is_one_of ns 0)) → RefusesBy ns a → number_of a ≡ 0 → (v : A) × (a ≡ answered v)

-- what is left of a lent list: "A refusal .. leaves lent buffers untouched. A success writes only what its rule names; the rest of an output keeps what it
-- held."
abbrev pub left : {A : Type 0} → Answer (List A) → List A → List A
left (answered new) old = new ++ drop (length new) old
left (refused n) old = old
