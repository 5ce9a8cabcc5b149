-- A number's bytes as the library gives and takes them, and as they stand in a list. Assumes nothing.
use Prim.Native.Nat.{ℕ, zero, suc, ◌+◌, ◌*◌, ◌/◌, ◌%◌, ◌^◌, ◌≤◌, min}
use native.Mathlib.Nat.{pow-suc, div-div-eq-div-mul, div-one}
use native.Mathlib.Omega.{arith}
use mathlib.Core.Path.{◌≡◌, refl, sym, ◌∙◌, ap}
use mathlib.Core.List.{List, [], ◌∷◌, ◌++◌, map, append-nil}
use borrow.Author.Tests.{leb-true, leb-false}
use lib.Dec.{leb}
use lib.ListN.{length, get_or, take, drop, replicate}
use lib.Seq.{drop-cons}
use Rattle.std.specs.Int.{w16, w32, w64, byte_at, bytes_low_first, from_le_bytes}
use Rattle.numbers.specs.Little.{little, number_at, numbers_at, bytes}
use Rattle.std.proofs.lemmas.List.{drop_all, take-take, length-map}
use Rattle.numbers.proofs.Cases.{cases}
use Rattle.numbers.proofs.Stored.{Stores, stores_all}

byte_is : (i x : ℕ) → byte_at i x ≡ x / 256 ^ i % 256
byte_is zero x = omega arith
byte_is (suc i) x = refl

bytes_from : (i k x : ℕ) → bytes_low_first i k x ≡ bytes k (x / 256 ^ i)
unfolding bytes
bytes_from i zero x = refl
bytes_from i (suc k) x =
    let rest : x / 256 ^ suc i ≡ x / 256 ^ i / 256 = ap (λ (n : ℕ). x / n) (pow-suc 256 i) ∙ sym (div-div-eq-div-mul x (256 ^ i) 256) in
    rw (byte_is i x, bytes_from (suc i) k x, rest)

pub bytes_given : (k x : ℕ) → bytes_low_first 0 k x ≡ bytes k x
bytes_given k x = bytes_from 0 k x ∙ ap (bytes k) (div-one x)

-- the first bytes of a number's
pub first_bytes : (w k x : ℕ) → w ≤ k → take w (bytes k x) ≡ bytes w x
unfolding bytes
first_bytes zero k x few = refl
first_bytes (suc w) zero x few = absurd (omega arith)
first_bytes (suc w) (suc k) x few = ap (λ (l : List ℕ). x % 256 ∷ l) (first_bytes w k (x / 256) (omega arith))

-- the numbers of a list from a place on
row : List ℕ → ℕ → ℕ → ℕ → List ℕ
row s at i zero = []
row s at i (suc w) = get_or s (at + i) 0 ∷ row s at (suc i) w

part_is : (s : List ℕ) (at i w : ℕ) → at + i + w ≤ length s → take w (drop (at + i) s) ≡ row s at i w
unfolding row
part_is s at i zero fits = refl
part_is s at i (suc w) fits =
    let next : suc (at + i) ≡ at + suc i = omega arith in
    rw (drop-cons s (at + i) 0 (omega arith), next, part_is s at (suc i) w (omega arith))

number_is : (s : List ℕ) (at w : ℕ) → at + w ≤ length s → number_at s w at ≡ little (row s at 0 w)
unfolding number_at
number_is s at w fits = let start : at + 0 ≡ at = omega arith in ap little (rw start at (part_is s at 0 w (omega arith)))

-- as the library takes them
module _ (s : List ℕ) (at : ℕ) where
  pub number_two : at + 2 ≤ length s → from_le_bytes w16 (get_or s at 0 ∷ get_or s (at + 1) 0 ∷ []) ≡ number_at s 2 at
  unfolding little row
  number_two fits = let start : at + 0 ≡ at = omega arith in rw (number_is s at 2 fits, start) (omega arith)

  pub number_four : at + 4 ≤ length s
      → from_le_bytes w32 (get_or s at 0 ∷ get_or s (at + 1) 0 ∷ get_or s (at + 2) 0 ∷ get_or s (at + 3) 0 ∷ []) ≡ number_at s 4 at
  unfolding little row
  number_four fits = let start : at + 0 ≡ at = omega arith in rw (number_is s at 4 fits, start) (omega arith)

  pub number_eight : at + 8 ≤ length s
      → from_le_bytes w64 (get_or s at 0 ∷ get_or s (at + 1) 0 ∷ get_or s (at + 2) 0 ∷ get_or s (at + 3) 0
      ∷ get_or s (at + 4) 0 ∷ get_or s (at + 5) 0 ∷ get_or s (at + 6) 0 ∷ get_or s (at + 7) 0 ∷ [])
      ≡ number_at s 8 at
  unfolding little row
  number_eight fits = let start : at + 0 ≡ at = omega arith in rw (number_is s at 8 fits, start) (omega arith)

-- as it takes the first of a list
module _ (s : List ℕ) where
  pub first_two : 2 ≤ length s → from_le_bytes w16 (get_or s 0 0 ∷ get_or s 1 0 ∷ []) ≡ number_at s 2 0
  first_two = number_two s 0

  pub first_four : 4 ≤ length s → from_le_bytes w32 (get_or s 0 0 ∷ get_or s 1 0 ∷ get_or s 2 0 ∷ get_or s 3 0 ∷ []) ≡ number_at s 4 0
  first_four = number_four s 0

  pub first_eight : 8 ≤ length s → from_le_bytes w64 s ≡ number_at s 8 0
  unfolding little row
  first_eight fits = rw (number_is s 0 8 fits) (omega arith)

-- zeros behind the bytes of a number
zeros_add_nothing : (w k : ℕ) → little (take w (replicate k 0)) ≡ 0
unfolding little
zeros_add_nothing zero k = refl
zeros_add_nothing (suc w) zero = refl
zeros_add_nothing (suc w) (suc k) = omega (arith, zeros_add_nothing w k)

padded : (xs : List ℕ) (w k : ℕ) → little (take w (xs ++ replicate k 0)) ≡ little (take w xs)
unfolding little
padded [] w k = zeros_add_nothing w k ∙ sym (zeros_add_nothing w 0)
padded (x ∷ xs) zero k = refl
padded (x ∷ xs) (suc w) k = ap (λ (n : ℕ). x + 256 * n) (padded xs w k)

-- a number in a copy of eight bytes, of which there may be fewer
pub eight_copied : (s copy : List ℕ) (at w k : ℕ) → w ≤ 8 → copy ≡ take 8 (drop at s) → number_at (copy ++ replicate k 0) w 0 ≡ number_at s w at
unfolding number_at
eight_copied s copy at w k few e = padded copy w k ∙ ap (λ (l : List ℕ). little (take w l)) e ∙ ap little (take-take w 8 (drop at s) few)

-- behind the end there is no byte, however far: a place that is too great for a number may stand at the greatest one
number_beyond : (s : List ℕ) (w i j : ℕ) → length s ≤ i → length s ≤ j → number_at s w i ≡ number_at s w j
unfolding number_at
number_beyond s w i j past far = ap (λ (l : List ℕ). little (take w l)) (drop_all i s past ∙ sym (drop_all j s far))

pub number_held : (s : List ℕ) (w at more most : ℕ) → length s ≤ most → number_at s w (min (at + min more most) most) ≡ number_at s w (at + more)
number_held s w at more most long =
    cases (leb (at + more) most)
    (λ t. let near = leb-true (at + more) most t in let same : min (at + min more most) most ≡ at + more = omega arith in ap (number_at s w) same)
    (λ f. let far = leb-false (at + more) most f in number_beyond s w _ _ (omega arith) (omega arith))

-- what a loop leaves that reads a whole list of them
pub all_loaded : {X : Type 0} (value : X → ℕ) (old out : List X) (s : List ℕ) (w at : ℕ) {i : ℕ}
    → Stores (λ (k : ℕ). number_at s w (at + w * k)) (length old) (map value old) (map value out) i → length old ≤ i
    → map value out ≡ numbers_at s w at (length old)
all_loaded value old out s w at held last =
    let none : drop (length old) (map value old) ≡ [] = drop_all (length old) (map value old) (rw length-map (omega arith)) in
    stores_all held last ∙ ap (λ (l : List ℕ). numbers_at s w at (length old) ++ l) none ∙ append-nil (numbers_at s w at (length old))
