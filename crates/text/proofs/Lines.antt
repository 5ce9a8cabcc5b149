-- How long signed numbers and a refusal's line are. Assumes nothing.
use Prim.Native.Nat.{ℕ, suc, ◌^◌, ◌≤◌, ◌<◌}
use native.Mathlib.Omega.{arith}
use mathlib.Core.List.{[], ◌∷◌}
use lib.IntN.{ℤ, pos, negsuc}
use lib.ListN.{length, length-append}
use mir.Syntax.{w64}
use mir.Val.{SFits}
use mathlib.Core.Path.{sym}
use Rattle.numbers.proofs.Cases.{never}
use Rattle.std.specs.Prelude.{Result, Ok, Err, IsOk, OnOk}
use Rattle.text.specs.Text.{decimal, newline, signed_decimal, refused_line, TextLengths}
use Rattle.text.proofs.Digits.{decimal_length, decimal_most}

pub below_ten_digits : (x : ℕ) → x < 2 ^ 32 → x < 10 ^ 10
below_ten_digits x h = omega arith

-- the size of a number of 64 bits with a sign is at most 2 ^ 63
pub below_nineteen_digits : (x : ℕ) → x ≤ 2 ^ 63 → x < 10 ^ 19
below_nineteen_digits x h = omega arith

pub signed_most : (x : ℤ) → SFits w64 x → length (signed_decimal x) ≤ 20
signed_most (pos n) fits = omega (arith, decimal_length 20 19 n (omega arith) (below_nineteen_digits n (omega (arith, fits.sfits))))
signed_most (negsuc n) fits = omega (arith, decimal_length 20 19 (suc n) (omega arith) (below_nineteen_digits (suc n) (omega (arith, fits.sfits))))

pub refused_most : (k : ℕ) → length (refused_line k) ≤ 29
refused_most k = rw (length-append (decimal k) (newline ∷ [])) (omega (arith, decimal_most 20 k))

pub text_lengths : TextLengths
text_lengths = record { digits = decimal_length 20; signed = signed_most; line = refused_most }

-- what is appended where there is room for all of it
pub surely : {T E P : Type 0} (r : Result T E) → IsOk r → OnOk r P → P
surely (Ok x) is h = h
surely (Err e) is h = never (sym is)
