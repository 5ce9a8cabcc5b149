-- The whole numbers of a list of words, one word more, and a word that holds none. Assumes nothing.
use Prim.Native.Nat.{ℕ, suc, ◌+◌, ◌<◌}
use native.Mathlib.Numerals.{add-one}
use mathlib.Core.Path.{◌≡◌, sym, ◌∙◌, ap}
use mathlib.Core.List.{List}
use lib.Dec.{lit≤}
use lib.IntN.{ℤ, pos}
use lib.ListN.{length, get_or, take, drop, set}
use lib.Seq.{take-suc, take-suc-set, split_at}
use lib.Ieee.{of_bits, binary64}
use Rattle.answer.specs.Answer.{Answer, answered, refused}
use Rattle.answer.proofs.Each.{each_more, each_stops, each_length, each_holds}
use Rattle.integers.specs.Sizes.{Within, EachWithin}
use Rattle.grid_number.specs.Grid.{grid_number}
use Rattle.grid_number.proofs.Small.{grid_small}
use Rattle.volume_report.specs.Report.{grid_numbers}

abbrev word_number : ℕ → Answer ℤ
word_number word = grid_number (of_bits binary64 word)

module _ (words : List ℕ) (out : List ℤ) (i : ℕ) (below : i < length words) (so_far : grid_numbers (take i words) ≡ answered (take i out)) where
  pub numbers_more : (z : ℤ) → i < length out → grid_number (of_bits binary64 (get_or words i 0)) ≡ answered z
      → grid_numbers (take (i + 1) words) ≡ answered (take (i + 1) (set out i z))
  unfolding grid_numbers
  numbers_more z room e =
      ap (λ (k : ℕ). grid_numbers (take k words)) (add-one i)
      ∙ ap grid_numbers (take-suc words i 0 below)
      ∙ each_more word_number (take i words) (get_or words i 0) (take i out) z so_far e
      ∙ ap answered (sym (ap (λ (k : ℕ). take k (set out i z)) (add-one i) ∙ take-suc-set out i z room))

  pub numbers_stop : (k : ℕ) → grid_number (of_bits binary64 (get_or words i 0)) ≡ refused k → grid_numbers words ≡ refused k
  unfolding grid_numbers
  numbers_stop k e =
      ap grid_numbers (split_at words i 0 below) ∙ each_stops word_number (take i words) (drop (suc i) words) (get_or words i 0) (take i out) k so_far e

pub numbers_long : (words : List ℕ) (numbers : List ℤ) → grid_numbers words ≡ answered numbers → length numbers ≡ length words
unfolding grid_numbers
numbers_long words numbers e = each_length word_number words numbers e

pub numbers_small : (words : List ℕ) (numbers : List ℤ) → grid_numbers words ≡ answered numbers → EachWithin 1024 numbers
unfolding grid_numbers
numbers_small words numbers e =
    record {
      at = each_holds word_number (Within 1024) (λ word z. grid_small (of_bits binary64 word) z) (pos 0) (record { within = lit≤ tt }) words numbers e;
    }
