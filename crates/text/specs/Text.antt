-- Text as a list of ASCII codes: decimal numbers, and the line that a refused file prints. Definitions and claims only.
use Rattle.std.specs.Prelude.{ℕ, zero, suc, ◌+◌, ◌/◌, ◌%◌, ◌^◌, ◌<◌, ◌≤◌, ◌≡◌, cond, List, [], ◌∷◌, ◌++◌, ltb, ℤ, pos, negsuc, length}
use Rattle.std.specs.Int.{w64}
use Rattle.std.proofs.Common.{SFits}
use Rattle.answer.specs.Answer.{Answer, answered, refused}

-- a number of at most k decimal digits, with no zero in front of another digit
unfoldable pub decimal_in : ℕ → ℕ → List ℕ
decimal_in zero x = []
decimal_in (suc k) x = cond (ltb x 10) ((48 + x) ∷ []) (decimal_in k (x / 10) ++ ((48 + x % 10) ∷ []))

-- twenty digits hold every number of 64 bits
abbrev pub decimal : ℕ → List ℕ
decimal x = decimal_in 20 x

abbrev pub newline : ℕ
newline = 10

abbrev pub space : ℕ
space = 32

abbrev pub minus_sign : ℕ
minus_sign = 45

-- a minus before a number below zero
abbrev pub signed_decimal : ℤ → List ℕ
signed_decimal (pos n) = decimal n
signed_decimal (negsuc n) = minus_sign ∷ decimal (suc n)

-- "refused "
abbrev pub refused_word : List ℕ
refused_word = 114 ∷ 101 ∷ 102 ∷ 117 ∷ 115 ∷ 101 ∷ 100 ∷ 32 ∷ []

-- "A refused file prints one line, as `refused 11`."
abbrev pub refused_line : ℕ → List ℕ
refused_line k = refused_word ++ (decimal k ++ (newline ∷ []))

-- what is printed: the text, or a refusal's line
abbrev pub shown : Answer (List ℕ) → List ℕ
shown (answered text) = text
shown (refused k) = refused_line k

-- A number's text is the same in however many digits there is room for it.
abbrev pub SameText : Type 0
SameText = (j k x : ℕ) → 0 < j → 0 < k → x < 10 ^ j → x < 10 ^ k → decimal_in j x ≡ decimal_in k x

-- How long a text is: a number below 10 ^ k has at most k digits; one of 64 bits with a sign has at most nineteen, and a minus; and a refusal's line has a
-- word of eight letters and signs, a number of at most twenty digits, whatever it is, and a newline.
pub record TextLengths : Type 0 where
  pub digits : (k x : ℕ) → 0 < k → x < 10 ^ k → length (decimal x) ≤ k
  pub signed : (x : ℤ) → SFits w64 x → length (signed_decimal x) ≤ 20
  pub line : (k : ℕ) → length (refused_line k) ≤ 29
