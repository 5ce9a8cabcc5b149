-- What a loop that writes and counts judgements has done after k turns, and after the last. Assumes nothing.
use Prim.Native.Nat.{ℕ, zero, suc, ◌+◌, ◌≤◌, ◌<◌, ◌^◌, zero-le}
use native.Mathlib.Nat.{le_refl, zero-add, not-suc-le-zero, le_of_suc-le-suc}
use native.Mathlib.Numerals.{add-one}
use native.Mathlib.Omega.{arith}
use mathlib.Core.Path.{◌≡◌, refl, sym, ◌∙◌}
use mathlib.Core.Bool.{Bool, true, false, cond}
use mathlib.Core.List.{List, [], ◌∷◌, ◌++◌, map}
use lib.Dec.{eqb}
use lib.ListN.{length, get_or, set, take, drop, length-map, get_or-map}
use lib.Seq.{length-take-le, length_front, paste-suc}
use mir.Val.{bool_byte}
use Rattle.proposals.specs.Judgements.{zeros}

-- what stands in a list of which the first k numbers are written over
abbrev pub overwritten : List ℕ → List ℕ → ℕ → List ℕ
overwritten new old k = take k new ++ drop k old

pub overwritten_long : (new old : List ℕ) (k : ℕ) → k ≤ length new → k ≤ length old → length (overwritten new old k) ≡ length old
overwritten_long new old k in_new in_old = length_front old (take k new) k (length-take-le k new in_new ∙ sym (length-take-le k old in_old))

counted_more : (js : List ℕ) (k d : ℕ) → k < length js → zeros (take k js) + cond (eqb (get_or js k d) 0) 1 0 ≡ zeros (take (suc k) js)
counted_more [] k d inside = absurd (not-suc-le-zero inside)
counted_more (j ∷ js) zero d inside = omega arith
counted_more (j ∷ js) (suc k) d inside = omega (arith, counted_more js k d (le_of_suc-le-suc inside))

-- a truth value as a number
pub as_number : (b : Bool) → bool_byte b ≡ cond b 1 0
as_number true = refl
as_number false = refl

one_or_none : (b : Bool) → cond b 1 0 ≤ 1
one_or_none true = le_refl 1
one_or_none false = zero-le

pub one_at_most : (b : Bool) → bool_byte b ≤ 1
one_at_most true = le_refl 1
one_at_most false = zero-le

-- so is what a truth value gives, whichever it is
pub counts_one : (b : Bool) (more : ℕ) → more ≡ bool_byte b → more ≤ 1
counts_one b more is = rw is (one_at_most b)

counted_below : (js : List ℕ) (k : ℕ) → zeros (take k js) ≤ k
counted_below js zero = zero-le
counted_below [] (suc k) = zero-le
counted_below (j ∷ js) (suc k) = omega (arith, counted_below js k, one_or_none (eqb j 0))

pub count_fits : (js : List ℕ) (k turns : ℕ) → k ≤ turns → turns ≤ 256 → zeros (take k js) + 1 < 2 ^ 32
count_fits js k turns few small = omega (arith, counted_below js k)

-- one turn more, for the judgements of a list of records
module _ {A : Type 0} (f : A → ℕ) (xs : List A) (d : A) (k : ℕ) (inside : k < length xs) where
  pub one_more_written : (old : List ℕ) → k < length old → set (overwritten (map f xs) old k) k (f (get_or xs k d)) ≡ overwritten (map f xs) old (k + 1)
  one_more_written old in_old =
      rw (← get_or-map f xs k d, add-one) (simp zero-add at (paste-suc old 0 (map f xs) k (f d) (simp zero-add in_old) (rw length-map inside)))

  pub one_more_counted : zeros (take k (map f xs)) + cond (eqb (f (get_or xs k d)) 0) 1 0 ≡ zeros (take (k + 1) (map f xs))
  one_more_counted = rw (← get_or-map f xs k d, add-one) (counted_more (map f xs) k (f d) (rw length-map inside))
