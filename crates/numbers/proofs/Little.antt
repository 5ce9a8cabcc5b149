-- Little-endian numbers: read and written, they undo each other at every width; and a number read in halves. Assumes nothing.
use Prim.Native.Nat.{ℕ, zero, suc, ◌+◌, ◌*◌, ◌/◌, ◌%◌, ◌^◌, ◌<◌, ◌≤◌}
use native.Mathlib.Nat.{pow-succ', one-le-pow, mul_assoc, add-zero, zero-add, suc-add, mod-lt, mod-add-div, le_of_suc-le-suc, not-suc-le-zero, mul-le-mul_left}
use native.Mathlib.Numerals.{add-one}
use native.Mathlib.Omega.{arith}
use mathlib.Core.Path.{◌≡◌, refl, sym, ◌∙◌, ap, ap₂}
use mathlib.Core.List.{List, [], ◌∷◌, ◌++◌, append_assoc, append-nil}
use lib.Dec.{lit<}
use lib.ListN.{length, get_or, take, drop, length-append, length-drop}
use lib.Seq.{take-suc, length-take-le, drop-cons, drop-drop, take-add, take_at, drop_at, get_or-take, get_or-drop}
use Rattle.numbers.specs.Rule.{tabulate}
use Rattle.numbers.specs.Little.{little, number_at, numbers_at, bytes, all_bytes, Below, LittleEndian}
use Rattle.numbers.proofs.Prefix.{tabulate_where}

little_append : (xs ys : List ℕ) → little (xs ++ ys) ≡ little xs + 256 ^ length xs * little ys
unfolding little
little_append [] ys = omega arith
little_append (x ∷ xs) ys = rw (pow-succ' 256 (length xs), mul_assoc 256 (256 ^ length xs) (little ys), little_append xs ys) (omega arith)

part_length : (s : List ℕ) (w at : ℕ) → at + w ≤ length s → length (take w (drop at s)) ≡ w
part_length s w at h = length-take-le w (drop at s) (rw length-drop (omega arith))

-- two numbers of w bytes each, one behind the other, make one of twice as many
pub number_halves : (s : List ℕ) (w at low high : ℕ) → at + w ≤ length s → low ≡ number_at s w at → high ≡ number_at s w (at + w)
    → low + 256 ^ w * high ≡ number_at s (w + w) at
unfolding number_at
number_halves s w at low high fits el eh =
    rw (
      el,
      eh,
      take-add w w (drop at s),
      drop-drop w at s,
      little_append (take w (drop at s)) (take w (drop (at + w) s)),
      part_length s w at fits,
    )

pub number_byte : (s : List ℕ) (at : ℕ) → at < length s → number_at s 1 at ≡ get_or s at 0
unfolding number_at little
number_byte s at h = rw (drop-cons s at 0 h) (add-zero (get_or s at 0))

number_back : (w x : ℕ) → x < 256 ^ w → little (bytes w x) ≡ x
unfolding little bytes
number_back zero x h = omega arith
number_back (suc w) x h =
    let small : x < 256 * 256 ^ w = rw (pow-succ' 256 w) at h in
    rw (number_back w (x / 256) (omega arith)) (omega arith)

below_first : (bound x : ℕ) (xs : List ℕ) → Below bound (x ∷ xs) → x < bound
below_first bound x xs h = h 0 (omega arith)

below_rest : (bound x : ℕ) (xs : List ℕ) → Below bound (x ∷ xs) → Below bound xs
below_rest bound x xs h i l = h (suc i) (omega arith)

bytes_back : (bs : List ℕ) → Below 256 bs → bytes (length bs) (little bs) ≡ bs
unfolding little bytes
bytes_back [] h = refl
bytes_back (b ∷ bs) h =
    let small : b < 256 = below_first 256 b bs h in
    let low : (b + 256 * little bs) % 256 ≡ b = omega arith in
    let high : (b + 256 * little bs) / 256 ≡ little bs = omega arith in
    rw (low, high, bytes_back bs (below_rest 256 b bs h))

pub length_bytes : (w x : ℕ) → length (bytes w x) ≡ w
unfolding bytes
length_bytes zero x = refl
length_bytes (suc w) x = ap suc (length_bytes w (x / 256))

pub length_all_bytes : (w : ℕ) (xs : List ℕ) → length (all_bytes w xs) ≡ w * length xs
unfolding all_bytes
length_all_bytes w [] = omega arith
length_all_bytes w (x ∷ xs) = rw (length-append, length_bytes w x, length_all_bytes w xs) (omega arith)

-- a number written in parts: the bytes of the low part, and behind them those of the high part
bytes_parts : (v w low high : ℕ) → low < 256 ^ v → bytes v low ++ bytes w high ≡ bytes (v + w) (low + 256 ^ v * high)
unfolding bytes
bytes_parts zero w low high small =
    let whole : low + 256 ^ 0 * high ≡ high = omega arith in
    rw (zero-add w, whole)
bytes_parts (suc v) w low high small =
    let power : 256 ^ suc v ≡ 256 * 256 ^ v = pow-succ' 256 v in
    let below : low / 256 < 256 ^ v = omega arith in
    let last : (low + 256 ^ suc v * high) % 256 ≡ low % 256 = rw (power, mul_assoc 256 (256 ^ v) high) (omega arith) in
    let rest : (low + 256 ^ suc v * high) / 256 ≡ low / 256 + 256 ^ v * high = rw (power, mul_assoc 256 (256 ^ v) high) (omega arith) in
    rw (suc-add v w, last, rest, ← bytes_parts v w (low / 256) high below)

-- the bytes of a number are those of its low half and then of its high half
pub bytes_halves : (w x : ℕ) → bytes w (x % 256 ^ w) ++ bytes w (x / 256 ^ w) ≡ bytes (w + w) x
bytes_halves w x =
    bytes_parts w w (x % 256 ^ w) (x / 256 ^ w) (mod-lt x (one-le-pow w 256 (lit< tt))) ∙ ap (bytes (w + w)) (mod-add-div x (256 ^ w))

-- a byte is a number of one byte
pub byte_is : (b : ℕ) → b < 256 → bytes 1 b ≡ b ∷ []
unfolding bytes
byte_is b h = let low : b % 256 ≡ b = omega arith in rw low

pub all_bytes_one : (w x : ℕ) → all_bytes w (x ∷ []) ≡ bytes w x
unfolding all_bytes
all_bytes_one w x = append-nil (bytes w x)

-- one number more
all_bytes_behind : (w : ℕ) (xs : List ℕ) (x : ℕ) → all_bytes w (xs ++ (x ∷ [])) ≡ all_bytes w xs ++ bytes w x
unfolding all_bytes
all_bytes_behind w [] x = all_bytes_one w x
all_bytes_behind w (y ∷ ys) x = rw (all_bytes_behind w ys x) (sym (append_assoc (bytes w y) (all_bytes w ys) (bytes w x)))

pub all_bytes_more : (w : ℕ) (xs : List ℕ) (i : ℕ) → i < length xs → all_bytes w (take i xs) ++ bytes w (get_or xs i 0) ≡ all_bytes w (take (i + 1) xs)
all_bytes_more w xs i below = rw (add-one, take-suc xs i 0 below) (sym (all_bytes_behind w (take i xs) (get_or xs i 0)))

-- the part of a list from `at` on, of which each number is below the same bound
below_part : (bound w at : ℕ) (s : List ℕ) → Below bound s → at + w ≤ length s → Below bound (take w (drop at s))
below_part bound w at s h fits i l =
    let inside : i < w = rw (part_length s w at fits) at l in
    rw (get_or-take w (drop at s) i 0 inside, get_or-drop at s i 0) (h (at + i) (omega arith))

-- the bytes of the number that stands in some bytes
pub number_bytes : (s : List ℕ) (w at : ℕ) → Below 256 s → at + w ≤ length s → bytes w (number_at s w at) ≡ take w (drop at s)
unfolding number_at
number_bytes s w at h fits =
    ap (λ (n : ℕ). bytes n (little (take w (drop at s)))) (sym (part_length s w at fits)) ∙ bytes_back (take w (drop at s)) (below_part 256 w at s h fits)

little_below : (bs : List ℕ) → Below 256 bs → little bs < 256 ^ length bs
unfolding little
little_below [] h = lit< tt
little_below (b ∷ bs) h =
    let byte : b < 256 = below_first 256 b bs h in
    let rest : little bs < 256 ^ length bs = little_below bs (below_rest 256 b bs h) in
    rw (pow-succ' 256 (length bs)) (omega arith)

number_below : (s : List ℕ) (w at : ℕ) → Below 256 s → at + w ≤ length s → number_at s w at < 256 ^ w
unfolding number_at
number_below s w at h fits = rw (part_length s w at fits) at (little_below (take w (drop at s)) (below_part 256 w at s h fits))

below_tabulate : (bound n : ℕ) (f : ℕ → ℕ) → ((i : ℕ) → i < n → f i < bound) → Below bound (tabulate n f)
below_tabulate bound zero f h i l = absurd (not-suc-le-zero l)
below_tabulate bound (suc n) f h zero l = h 0 (omega arith)
below_tabulate bound (suc n) f h (suc i) l = below_tabulate bound n (λ (j : ℕ). f (suc j)) (λ j m. h (suc j) (omega arith)) i (le_of_suc-le-suc l)

pub numbers_below : (s : List ℕ) (w at n : ℕ) → Below 256 s → at + w * n ≤ length s → Below (256 ^ w) (numbers_at s w at n)
numbers_below s w at n h fits =
    below_tabulate (256 ^ w) n (λ (i : ℕ). number_at s w (at + w * i)) (λ i l. number_below s w (at + w * i) h (omega (arith, mul-le-mul_left w l)))

-- a number that stands behind some list
pub number_behind : (w x : ℕ) (before after : List ℕ) → x < 256 ^ w → number_at (before ++ (bytes w x ++ after)) w (length before) ≡ x
unfolding number_at
number_behind w x before after h =
    rw (drop_at before (bytes w x ++ after) (length before) refl, take_at (bytes w x) after w (length_bytes w x)) (number_back w x h)

numbers_back : (w : ℕ) (xs before after : List ℕ) → Below (256 ^ w) xs → numbers_at (before ++ (all_bytes w xs ++ after)) w (length before) (length xs) ≡ xs
unfolding all_bytes
numbers_back w [] before after h = refl
numbers_back w (x ∷ xs) before after h =
    let rest = all_bytes w xs ++ after in
    let next = before ++ bytes w x in
    let s = before ++ (all_bytes w (x ∷ xs) ++ after) in
    let parts : s ≡ before ++ (bytes w x ++ rest) = ap (λ (l : List ℕ). before ++ l) (append_assoc (bytes w x) (all_bytes w xs) after) in
    let here : length before + w * 0 ≡ length before = omega arith in
    let first : number_at s w (length before + w * 0) ≡ x = rw (here, parts) (number_behind w x before rest (below_first (256 ^ w) x xs h)) in
    let whole : s ≡ next ++ rest = parts ∙ sym (append_assoc before (bytes w x) rest) in
    let moved : (i : ℕ) → length before + w * suc i ≡ length next + w * i = λ i. rw (length-append before (bytes w x), length_bytes w x) (omega arith) in
    let alike : tabulate (length xs) (λ (i : ℕ). number_at s w (length before + w * suc i)) ≡ numbers_at (next ++ rest) w (length next) (length xs) =
    tabulate_where (length xs) _ _ (λ i _. ap₂ (λ (l : List ℕ) (at : ℕ). number_at l w at) whole (moved i))
    in
    ap₂ (λ (y : ℕ) (ys : List ℕ). y ∷ ys) first (alike ∙ numbers_back w xs next after (below_rest (256 ^ w) x xs h))

all_bytes_back : (w at n : ℕ) (s : List ℕ) → Below 256 s → at + w * n ≤ length s → all_bytes w (numbers_at s w at n) ≡ take (w * n) (drop at s)
unfolding all_bytes
all_bytes_back w at zero s h fits = let none : w * 0 ≡ 0 = omega arith in rw none
all_bytes_back w at (suc n) s h fits =
    let here : at + w * 0 ≡ at = omega arith in
    let first : bytes w (number_at s w (at + w * 0)) ≡ take w (drop at s) = rw here (number_bytes s w at h (omega arith)) in
    let moved : (i : ℕ) → at + w * suc i ≡ at + w + w * i = λ i. omega arith in
    let rest : all_bytes w (tabulate n (λ (i : ℕ). number_at s w (at + w * suc i))) ≡ take (w * n) (drop (at + w) s) =
    ap (all_bytes w) (tabulate_where n _ _ (λ i _. ap (number_at s w) (moved i))) ∙ all_bytes_back w (at + w) n s h (omega arith)
    in
    let whole : w * suc n ≡ w + w * n = omega arith in
    rw (first, rest, whole, take-add w (w * n) (drop at s), drop-drop w at s)

pub little_endian : LittleEndian
little_endian = record { number_back = number_back; numbers_back = numbers_back; bytes_back = all_bytes_back }
