-- A number of one digit, and of more; that the room for it changes nothing; and how long it is. Assumes nothing.
use Prim.Native.Nat.{ℕ, zero, suc, ◌-◌, ◌*◌, ◌/◌, ◌%◌, ◌+◌, ◌^◌, ◌≤◌, ◌<◌}
use native.Mathlib.Nat.{not-suc-le-zero, pow-succ'}
use native.Mathlib.Omega.{arith}
use mathlib.Core.Path.{◌≡◌, refl, sym, ◌∙◌, ap}
use mathlib.Core.List.{List, [], ◌∷◌, ◌++◌}
use lib.Dec.{ltb}
use lib.ListN.{length, length-append}
use borrow.Author.Tests.{lt-ltb, le-ltb, ltb-true, ltb-false}
use Rattle.numbers.proofs.Cases.{cases}
use Rattle.std.specs.Fmt.{decimal as std_decimal, signed_decimal as std_signed}
use Rattle.std.proofs.lemmas.Fmt.{decimal_digit, decimal_step}
use mir.Syntax.{w64}
use mir.Val.{SFits}
use lib.IntN.{ℤ, pos, negsuc}
use Rattle.text.specs.Text.{decimal_in, decimal, signed_decimal, SameText}

pub decimal_last : (k x : ℕ) → 0 < k → x < 10 → decimal_in k x ≡ (48 + x) ∷ []
unfolding decimal_in
decimal_last zero x some h = absurd (not-suc-le-zero some)
decimal_last (suc k) x some h = rw (lt-ltb x 10 h)

pub decimal_more : (k x : ℕ) → 0 < k → 10 ≤ x → decimal_in k x ≡ decimal_in (k - 1) (x / 10) ++ ((48 + x % 10) ∷ [])
unfolding decimal_in
decimal_more zero x some h = absurd (not-suc-le-zero some)
decimal_more (suc k) x some h = let less : suc k - 1 ≡ k = omega arith in rw (le-ltb x 10 h, less)

pub fewer_digits : (k x : ℕ) → x < 10 ^ k → 10 ≤ x → (0 < k - 1) × (x / 10 < 10 ^ (k - 1))
fewer_digits zero x below h = absurd (omega arith)
fewer_digits (suc zero) x below h = absurd (omega arith)
fewer_digits (suc (suc k)) x below h =
    let less : suc (suc k) - 1 ≡ suc k = omega arith in
    let small : x < 10 * 10 ^ suc k = rw (pow-succ' 10 (suc k)) at below in
    rw less (omega arith, omega arith)

-- ---- the last digit does not depend on the room, nor do those before it
pub same_text : SameText
same_text zero k x some _ below _ = absurd (not-suc-le-zero some)
same_text (suc j) k x some room below within =
    cases (ltb x 10)
    (λ t. let one = ltb-true x 10 t in decimal_last (suc j) x some one ∙ sym (decimal_last k x room one))
    (λ f.
    let more = ltb-false x 10 f in
    let less : suc j - 1 ≡ j = omega arith in
    let fewer = rw less at (fewer_digits (suc j) x below more) in
    let few = fewer_digits k x within more in
    let before = same_text j (k - 1) (x / 10) fewer.0 few.0 fewer.1 few.1 in
    rw (decimal_more (suc j) x some more, decimal_more k x room more, less, before))

-- ---- std's text of a number of 64 bits is the same
written : (k x : ℕ) → 0 < k → x < 10 ^ k → x < 2 ^ 64 → std_decimal x ≡ decimal_in k x
written zero x some below few = absurd (not-suc-le-zero some)
written (suc k) x some below few =
    cases (ltb x 10)
    (λ t. let one = ltb-true x 10 t in decimal_digit x one ∙ sym (decimal_last (suc k) x some one))
    (λ f.
    let more = ltb-false x 10 f in
    let less : suc k - 1 ≡ k = omega arith in
    let fewer = rw less at (fewer_digits (suc k) x below more) in
    rw (decimal_step x more few, decimal_more (suc k) x some more, less, written k (x / 10) fewer.0 fewer.1 (omega arith)))

pub same_decimal : (x : ℕ) → x < 2 ^ 64 → std_decimal x ≡ decimal x
same_decimal x few = written 20 x (omega arith) (omega arith) few

pub same_signed : (x : ℤ) → SFits w64 x → std_signed x ≡ signed_decimal x
same_signed (pos n) fits = same_decimal n (omega (arith, fits.sfits))
same_signed (negsuc n) fits = ap (λ (t : List ℕ). 45 ∷ t) (same_decimal (suc n) (omega (arith, fits.sfits)))

no_digits : (x : ℕ) → length (decimal_in 0 x) ≡ 0
unfolding decimal_in
no_digits x = refl

pub decimal_length : (k j x : ℕ) → 0 < j → x < 10 ^ j → length (decimal_in k x) ≤ j
decimal_length zero j x some below = omega (arith, no_digits x)
decimal_length (suc k) j x some below =
    cases (ltb x 10)
    (λ t. rw (decimal_last (suc k) x (omega arith) (ltb-true x 10 t)) some)
    (λ f.
    let more = ltb-false x 10 f in
    let less : suc k - 1 ≡ k = omega arith in
    let fewer = fewer_digits j x below more in
    let before = decimal_length k (j - 1) (x / 10) fewer.0 fewer.1 in
    rw (decimal_more (suc k) x (omega arith) more, less, length-append) (omega (arith, before, fewer.0)))

-- no number has more digits than there is room for
pub decimal_most : (k x : ℕ) → length (decimal_in k x) ≤ k
decimal_most zero x = omega (arith, no_digits x)
decimal_most (suc k) x =
    cases (ltb x 10)
    (λ t. rw (decimal_last (suc k) x (omega arith) (ltb-true x 10 t)) (omega arith))
    (λ f.
    let less : suc k - 1 ≡ k = omega arith in
    rw (decimal_more (suc k) x (omega arith) (ltb-false x 10 f), less, length-append) (omega (arith, decimal_most k (x / 10))))
