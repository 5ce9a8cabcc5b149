-- What is reported of a refinement's answer and output, how long it is, and that a part of a long file is enough. Assumes nothing.
use Prim.Native.Nat.{ℕ, ◌+◌, ◌*◌, ◌^◌, ◌≤◌, ◌<◌}
use native.Mathlib.Omega.{arith}
use mathlib.Core.Path.{◌≡◌, refl, sym, ◌∙◌, ap, ap₂}
use mathlib.Core.List.{List, [], ◌∷◌, ◌++◌}
use lib.Dec.{lit≤}
use lib.ListN.{length, take, drop, get_or, length-append}
use lib.Seq.{take_at}
use Rattle.answer.specs.Answer.{answered, refused, left}
use Rattle.hxm.specs.Format.{node_count, mesh_at, mesh_of}
use Rattle.hxm.specs.Reads.{counts_in, mesh_into}
use Rattle.hxm.proofs.Ladder.{Counted, passed_accepted, enough_room, refusal}
use Rattle.hxm.proofs.Long.{enough_to_tell}
use Rattle.numbering.specs.Refinement.{cell_count, child_numbers}
use Rattle.numbering.proofs.Steps.{chain_length}
use Rattle.refine.specs.Refine.{refined, all_children, children_in}
use Rattle.buffer.proofs.Joined.{joined_most}
use Rattle.text.specs.Text.{decimal, newline, refused_line}
use Rattle.text.proofs.Digits.{decimal_length}
use Rattle.text.proofs.Lines.{below_ten_digits}
use Rattle.kids.specs.Table.{behind, field, line, table}
use Rattle.kids.specs.Kids.{nodes_word, head_line, report, kids_of, kids_in, printed, EnoughToPrint}

-- ---- how long a report is: a number of 32 bits has at most ten digits
ten : (x : ℕ) → x < 2 ^ 32 → length (decimal x) ≤ 10
ten x small = decimal_length 20 10 x (omega arith) (below_ten_digits x small)

pub head_most : (cells next : ℕ) → cells ≤ 128 → next < 2 ^ 32 → length (head_line cells next) ≤ 34
head_most cells next few small =
    let count = ten (8 * cells) (omega arith) in
    let nodes = ten next small in
    let rest : length (decimal next ++ (newline ∷ [])) ≡ length (decimal next) + 1 = length-append (decimal next) (newline ∷ []) in
    let all : length (decimal (8 * cells) ++ (nodes_word ++ (decimal next ++ (newline ∷ [])))) ≡ length (decimal (8 * cells)) + length (nodes_word ++ (decimal next ++ (newline ∷ []))) =
    length-append (decimal (8 * cells)) (nodes_word ++ (decimal next ++ (newline ∷ [])))
    in
    omega (arith, count, nodes, rest, all)

module _ (numbers : List ℕ) (small : (i : ℕ) → get_or numbers i 0 < 2 ^ 32) where
  field_most : (from j : ℕ) → length (field 8 numbers from j) ≤ 11
  field_most from j = rw (length-append (decimal (get_or numbers (from + j) 0)) (behind j 8 ∷ [])) (omega (arith, ten (get_or numbers (from + j) 0) (small (from + j))))

  pub table_most : (n : ℕ) → length (table 8 numbers n) ≤ 88 * n
  table_most n =
      joined_most 88 n (λ (i : ℕ). line 8 numbers (8 * i)) (λ i h. joined_most 11 8 (field 8 numbers (8 * i)) (λ j l. field_most (8 * i) j))

-- ---- what is reported of a mesh that is refined, whose c cells have 64 numbers each at the head of the output
module _ (n : ℕ) (cells : List ℕ) where
  kids_long : length (all_children n cells) ≡ 64 * cell_count cells
  kids_long = chain_length 64 (child_numbers n cells) (λ d. refl) (cell_count cells)

  pub record Reported (c next : ℕ) (out : List ℕ) : Type 0 where
    pub long : length (take (8 * (8 * c)) out) ≡ 64 * c
    pub text : kids_of n cells ≡ answered (report c next (take (8 * (8 * c)) out))

  pub reported : (c next : ℕ) (old out : List ℕ) → length cells ≡ 8 * c → answered next ≡ refined n cells 8192
      → out ≡ left (children_in (answered next) n cells) old → Reported c next out
  unfolding kids_of
  reported c next old out whole e w =
      let kids = all_children n cells in
      let count : cell_count cells ≡ c = omega (arith, whole) in
      let all : length kids ≡ 8 * (8 * c) = omega (arith, kids_long, count) in
      let head : take (8 * (8 * c)) out ≡ kids = ap (take (8 * (8 * c))) w ∙ take_at kids (drop (length kids) old) (8 * (8 * c)) all in
      record { long = omega (arith, ap length head, all); text = rw (← e, head, count) }

  pub refused_kids : (k : ℕ) → refused k ≡ refined n cells 8192 → kids_of n cells ≡ refused k
  unfolding kids_of
  refused_kids k e = rw (← e)

-- ---- and of a file that is accepted, or not
pub kids_of_file : (s corners : List ℕ) (n c : ℕ) → Counted s n c → corners ≡ (mesh_at s).corners → kids_in s ≡ kids_of n corners
unfolding mesh_at
kids_of_file s corners n c file e =
    let found : kids_in s ≡ kids_of (node_count s) (mesh_at s).corners = rw (passed_accepted s file.passed) in
    found ∙ ap₂ (λ (k : ℕ) (l : List ℕ). kids_of k l) file.nodes (sym e)

pub refused_file : (s : List ℕ) (k : ℕ) → refused k ≡ counts_in (mesh_into 3072 1024 s) → kids_in s ≡ refused k
refused_file s k e = rw (refusal (mesh_of s) k (e ∙ ap counts_in (enough_room 3072 1024 s (lit≤ tt) (lit≤ tt))))

pub enough_to_print : EnoughToPrint
unfolding printed
enough_to_print s = rw (enough_to_tell s)

pub shown_text : (s text : List ℕ) → kids_in s ≡ answered text → text ≡ printed s
unfolding printed
shown_text s text e = rw e

pub shown_refusal : (s : List ℕ) (k : ℕ) → kids_in s ≡ refused k → refused_line k ≡ printed s
unfolding printed
shown_refusal s k e = rw e
