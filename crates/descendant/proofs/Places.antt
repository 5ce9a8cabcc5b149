-- Places along a path and at its end, and their size. Assumes nothing.
use Prim.Native.Nat.{ℕ, zero, suc, ◌+◌, ◌-◌, ◌*◌, ◌%◌, ◌^◌, ◌≤◌, ◌<◌}
use native.Mathlib.Nat.{pow-succ', mod-eq_of_lt, one-mul}
use native.Mathlib.Omega.{arith}
use mathlib.Core.Path.{◌≡◌, refl, ◌∙◌, ap, ap₂}
use mathlib.Core.Bool.{Bool, true, false, cond}
use mathlib.Core.List.{List, [], ◌∷◌, ◌++◌}
use lib.Dec.{ltb}
use lib.IntN.{ℤ, pos, negsuc, nat_abs, ◌+ℤ◌, ◌*ℤ◌, +ℤ_assoc, +ℤ_comm, +ℤ_idl, neg_ℤ-+ℤ}
use lib.ListN.{length, get_or, take, drop, length-append, length-drop}
use lib.Seq.{take_all}
use lib.Pow.{pow_mono}
use lib.Signed.{mag}
use borrow.Author.Tests.{ltb-true}
use mir.Syntax.{w32}
use mir.Val.{SFits, to_z, of_z}
use mir.Facts.{to_z_pos, to_z-of_z}
use Rattle.integers.proofs.Sizes.{size_neg, size_add, size_mag}
use Rattle.numbers.proofs.All.{all_each, all_where}
use Rattle.hexahedron.specs.Cube.{upper}
use Rattle.descendant.specs.Place.{sign, octant, sum, place, octants, PlacesFollow}

-- a sign times a number

times_one : (up : Bool) → cond up (pos 1) (negsuc 0) *ℤ pos 1 ≡ cond up (pos 1) (negsuc 0)
times_one true = refl
times_one false = refl

times_double : (up : Bool) (p : ℕ) → cond up (pos 1) (negsuc 0) *ℤ pos (2 * p) ≡ cond up (pos 1) (negsuc 0) *ℤ pos p +ℤ cond up (pos 1) (negsuc 0) *ℤ pos p
times_double true p = ap pos (omega arith)
times_double false p = let twice : 1 * (2 * p) ≡ 1 * p + 1 * p = omega arith in rw twice (neg_ℤ-+ℤ (pos (1 * p)) (pos (1 * p)))

times_size : (up : Bool) (p : ℕ) → nat_abs (cond up (pos 1) (negsuc 0) *ℤ pos p) ≡ p
times_size true p = one-mul p
times_size false p = size_neg (pos (1 * p)) ∙ one-mul p

same_sum : (n : ℕ) (f g : ℕ → ℤ) → ((j : ℕ) → f (suc j) ≡ g (suc j)) → sum n f ≡ sum n g
same_sum zero f g e = refl
same_sum (suc n) f g e = ap₂ (λ (x y : ℤ). x +ℤ y) (e 0) (same_sum n (λ (j : ℕ). f (suc j)) (λ (j : ℕ). g (suc j)) (λ j. e (suc j)))

twice_sum : (s a b : ℤ) → (s +ℤ s) +ℤ (a +ℤ b) ≡ (s +ℤ a) +ℤ (s +ℤ b)
twice_sum s a b = rw (+ℤ_assoc s s (a +ℤ b), +ℤ_assoc s a (s +ℤ b), ← +ℤ_assoc s a b, ← +ℤ_assoc a s b, +ℤ_comm a s)

module _ (i : ℕ) where
  abbrev term : List ℕ → ℕ → ℤ
  term path j = sign (octant path j) i *ℤ pos (2 ^ (length path - j))

  term_rest : (o : ℕ) (rest : List ℕ) (j : ℕ) → term (o ∷ rest) (suc (suc j)) ≡ term rest (suc j)
  term_rest o rest j = let less : suc (length rest) - suc (suc j) ≡ length rest - suc j = omega arith in rw less

  pub place_none : (k : ℕ) → place [] k i ≡ sign k i
  unfolding place
  place_none k = +ℤ_idl (sign k i)

  pub place_along : (k o : ℕ) (rest : List ℕ) → place (o ∷ rest) k i ≡ sign o i *ℤ pos (2 ^ length rest) +ℤ place rest k i
  unfolding place
  place_along k o rest =
      let first : suc (length rest) - 1 ≡ length rest = omega arith in
      rw (first, same_sum (length rest) (λ (j : ℕ). term (o ∷ rest) (suc j)) (term rest) (term_rest o rest))
      (+ℤ_assoc (sign o i *ℤ pos (2 ^ length rest)) (sum (length rest) (term rest)) (sign k i))

  sign_one : (o : ℕ) → sign o i *ℤ pos 1 ≡ sign o i
  unfolding sign
  sign_one o = times_one (upper o i)

  sign_double : (o p : ℕ) → sign o i *ℤ pos (2 * p) ≡ sign o i *ℤ pos p +ℤ sign o i *ℤ pos p
  unfolding sign
  sign_double o p = times_double (upper o i) p

  one_longer : (path : List ℕ) (o : ℕ) → 2 ^ length (path ++ (o ∷ [])) ≡ 2 * 2 ^ length path
  one_longer path o =
      let longer : length (path ++ (o ∷ [])) ≡ suc (length path) = length-append path (o ∷ []) ∙ omega arith in
      ap (λ (n : ℕ). 2 ^ n) longer ∙ pow-succ' 2 (length path)

  pub place_deeper : (k o : ℕ) (path : List ℕ) → place (path ++ (o ∷ [])) k i ≡ place path o i +ℤ place path k i
  place_deeper k o [] = rw (place_along k o [], sign_one o, place_none k, place_none o)
  place_deeper k o (p ∷ path) =
      rw (
        place_along k p (path ++ (o ∷ [])),
        one_longer path o,
        sign_double p (2 ^ length path),
        place_deeper k o path,
        place_along o p path,
        place_along k p path,
      ) (twice_sum (sign p i *ℤ pos (2 ^ length path)) (place path o i) (place path k i))

pub places_follow : PlacesFollow
places_follow = record { along = λ o k i rest. place_along i k o rest; deeper = λ path o k i. place_deeper i k o path }

-- sizes

pub share_size : (o i p : ℕ) → nat_abs (sign o i *ℤ pos p) ≡ p
unfolding sign
share_size o i p = times_size (upper o i) p

sign_size : (o i : ℕ) → nat_abs (sign o i) ≤ 1
unfolding sign
sign_size o i = by (upper o i)
  where
    by : (up : Bool) → nat_abs (cond up (pos 1) (negsuc 0)) ≤ 1
    by true = omega arith
    by false = omega arith

-- no place is further out than the cube's corners
pub place_size : (path : List ℕ) (k i : ℕ) → nat_abs (place path k i) ≤ 2 ^ length path
place_size [] k i = rw (place_none i k) (sign_size k i)
place_size (o ∷ rest) k i =
    let sum = size_add (sign o i *ℤ pos (2 ^ length rest)) (place rest k i) in
    rw (place_along i k o rest) (omega (arith, sum, share_size o i (2 ^ length rest), place_size rest k i, pow-succ' 2 (length rest)))

-- what is at most 2 ^ 20 fits 32 bits with a sign, and is read back from its bits
pub fits : (d : ℕ) (x : ℤ) → d ≤ 20 → nat_abs x ≤ 2 ^ d → SFits w32 x
fits d x few small = let most : 2 ^ d ≤ 2 ^ 20 = pow_mono few in record { sfits = omega (arith, size_mag x) }

pub read_back : (x : ℤ) → mag x < 2 ^ 31 → to_z w32 (of_z w32 x) ≡ x
read_back x small = to_z-of_z {w = w32} (record { sfits = small })

pub power : (d : ℕ) → d ≤ 20 → to_z w32 ((1 * 2 ^ d) % 2 ^ 32) ≡ pos (2 ^ d)
power d few =
    let most : 2 ^ d ≤ 2 ^ 20 = pow_mono few in
    rw (one-mul (2 ^ d), mod-eq_of_lt {n = 2 ^ d} {m = 2 ^ 32} (omega arith)) (to_z_pos w32 (omega arith))

-- a path that is not empty, as the code takes it apart
pub rest_is : (path : List ℕ) → take (length path - 1) (drop 1 path) ≡ drop 1 path
rest_is path = take_all (length path - 1) (drop 1 path) (rw length-drop (omega arith))

pub place_parts : (path : List ℕ) (k i : ℕ) → (length path ≡ 0 → ⊥)
    → place path k i ≡ sign (get_or path 0 0) i *ℤ pos (2 ^ length (drop 1 path)) +ℤ place (drop 1 path) k i
place_parts [] k i some = absurd (some refl)
place_parts (o ∷ rest) k i some = place_along i k o rest

pub place_empty : (path : List ℕ) (k i : ℕ) → length path ≡ 0 → place path k i ≡ sign k i
place_empty [] k i none = place_none i k
place_empty (o ∷ rest) k i none = absurd (omega arith)

-- the octants of a path that has no other numbers
pub octant_at : (path : List ℕ) → octants path ≡ true → (j : ℕ) → j < length path → get_or path j 0 < 8
octant_at path all j h = ltb-true (get_or path j 0) 8 (all_each (λ (i : ℕ). ltb (get_or path i 0) 8) (length path) all j h)

pub octants_rest : (path : List ℕ) → octants path ≡ true → octants (drop 1 path) ≡ true
octants_rest [] all = all
octants_rest (o ∷ rest) all =
    all_where (λ (i : ℕ). ltb (get_or rest i 0) 8) (length rest) (λ j h. all_each (λ (i : ℕ). ltb (get_or (o ∷ rest) i 0) 8) (suc (length rest)) all (suc j) (omega arith))
