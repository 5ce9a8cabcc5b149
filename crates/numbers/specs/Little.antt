-- Little-endian numbers of any width, read and written. Definitions and claims only.
use Rattle.std.specs.Prelude.{ℕ, zero, suc, ◌+◌, ◌*◌, ◌/◌, ◌%◌, ◌^◌, ◌<◌, ◌≤◌, ◌≡◌, List, [], ◌∷◌, ◌++◌, length, get_or, take, drop}
use Rattle.numbers.specs.Rule.{tabulate}

-- the number that some bytes hold, the lowest first
unfoldable pub little : List ℕ → ℕ
little [] = 0
little (b ∷ bs) = b + 256 * little bs

-- the number in the w bytes from `at` on
unfoldable pub number_at : List ℕ → ℕ → ℕ → ℕ
number_at s w at = little (take w (drop at s))

-- n numbers of w bytes each, from `at` on
abbrev pub numbers_at : List ℕ → ℕ → ℕ → ℕ → List ℕ
numbers_at s w at n = tabulate n (λ (i : ℕ). number_at s w (at + w * i))

-- a number in w bytes
unfoldable pub bytes : ℕ → ℕ → List ℕ
bytes zero x = []
bytes (suc w) x = x % 256 ∷ bytes w (x / 256)

-- numbers one after the other, w bytes each
unfoldable pub all_bytes : ℕ → List ℕ → List ℕ
all_bytes w [] = []
all_bytes w (x ∷ xs) = bytes w x ++ all_bytes w xs

-- every number of the list is below a bound: a byte is below 256
abbrev pub Below : ℕ → List ℕ → Type 0
Below bound xs = (i : ℕ) → i < length xs → get_or xs i 0 < bound

-- Reading undoes writing, and writing undoes reading, at every width.
pub record LittleEndian : Type 0 where
  pub number_back : (w x : ℕ) → x < 256 ^ w → little (bytes w x) ≡ x
  pub numbers_back : (w : ℕ) (xs before after : List ℕ) → Below (256 ^ w) xs → numbers_at (before ++ (all_bytes w xs ++ after)) w (length before) (length xs) ≡ xs
  pub bytes_back : (w at n : ℕ) (s : List ℕ) → Below 256 s → at + w * n ≤ length s → all_bytes w (numbers_at s w at n) ≡ take (w * n) (drop at s)
