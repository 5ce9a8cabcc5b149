-- What is printed of a report's answer and output, how long it is, and that a part of a long file is enough. Assumes nothing.
use Prim.Native.Nat.{ℕ, suc, ◌+◌, ◌*◌, ◌^◌, ◌≤◌, ◌<◌}
use native.Mathlib.Omega.{arith}
use mathlib.Core.Path.{◌≡◌, sym, ◌∙◌, ap}
use mathlib.Core.List.{List, [], ◌∷◌, ◌++◌}
use lib.Dec.{eqb, lit≤}
use lib.IntN.{ℤ, pos, negsuc, nat_abs}
use lib.ListN.{length, take, drop, get_or, length-append}
use lib.Seq.{take_at}
use mir.Syntax.{w64}
use mir.Val.{SFits}
use Rattle.numbers.proofs.Cases.{cases}
use Rattle.answer.specs.Answer.{answered, refused, left}
use Rattle.answer.proofs.Answers.{answered_same, then_answered, then_refused}
use Rattle.hxm.proofs.Long.{enough_to_tell}
use Rattle.buffer.proofs.Joined.{joined_most}
use Rattle.text.specs.Text.{decimal, signed_decimal, newline, space, refused_line}
use Rattle.text.proofs.Digits.{decimal_length}
use Rattle.text.proofs.Lines.{below_ten_digits, signed_most}
use Rattle.volume_report.specs.Report.{Report, report_of, report_into, volumes_in, Fits}
use Rattle.volume_report.specs.Told.{summary, summary_of}
use Rattle.volume_report.specs.declared.Summary.{Summary}
use Rattle.volume_report.proofs.Promises.{report_fits, enough_volumes}
use Rattle.volume_lines.specs.Lines.{cell_line, cell_lines, total_line, cell_or_none, first_line, report_text, printed, EnoughToPrint}

-- ---- how long a report is: a volume has at most twenty characters, the number of a cell three digits, and any number of 32 bits ten
volume_most : (volume : ℤ) → nat_abs volume < 2 ^ 63 → length (signed_decimal volume) ≤ 20
volume_most volume small = signed_most volume (fits volume small)
  where
    fits : (z : ℤ) → nat_abs z < 2 ^ 63 → SFits w64 z
    fits (pos n) h = record { sfits = h }
    fits (negsuc n) h = record { sfits = omega (arith, h) }

cell_most : (k : ℕ) (volume : ℤ) → k < 128 → nat_abs volume < 2 ^ 63 → length (cell_line k volume) ≤ 25
cell_most k volume few small =
    let number = decimal_length 20 3 k (omega arith) (omega arith) in
    let whole : length (cell_line k volume) ≡ length (decimal k) + suc (length (signed_decimal volume ++ (newline ∷ []))) =
    length-append (decimal k) (space ∷ (signed_decimal volume ++ (newline ∷ [])))
    in
    let rest = length-append (signed_decimal volume) (newline ∷ []) in
    omega (arith, number, whole, rest, volume_most volume small)

total_most : (total : ℤ) → nat_abs total < 2 ^ 63 → length (total_line total) ≤ 27
total_most total small = let rest = length-append (signed_decimal total) (newline ∷ []) in omega (arith, rest, volume_most total small)

first_most : (cells first : ℕ) → first < 2 ^ 32 → length (first_line cells first) ≤ 17
first_most cells first small =
    let cell : length (cell_or_none cells first) ≤ 10 =
    cases (eqb first cells) (λ t. rw t (omega arith)) (λ f. rw f (decimal_length 20 10 first (omega arith) (below_ten_digits first small)))
    in
    let rest = length-append (cell_or_none cells first) (newline ∷ []) in
    omega (arith, rest, cell)

report_most : (r : Report) → Fits r → r.first < 2 ^ 32 → length (report_text r) ≤ 3244
report_most r fits small =
    let cells : length (cell_lines r.volumes) ≤ 25 * length r.volumes =
    joined_most 25 (length r.volumes) (λ (k : ℕ). cell_line k (get_or r.volumes k (pos 0)))
    (λ k h. cell_most k (get_or r.volumes k (pos 0)) (omega (arith, fits.cells)) (fits.volume k))
    in
    let rest = total_most r.total fits.total in
    rw (length-append, length-append) (omega (arith, cells, rest, fits.cells, first_most (length r.volumes) r.first small))

same_text : (q r : Report) → q.volumes ≡ r.volumes → q.total ≡ r.total → q.first ≡ r.first → report_text q ≡ report_text r
same_text q r volumes total first = rw (volumes, total, first)

-- ---- what `report` answers and leaves, where the list has room for every report
module _ (s : List ℕ) where
  pub refusal : (k : ℕ) → refused k ≡ summary_of (report_into 128 s) → refused_line k ≡ printed s
  unfolding printed
  refusal k e =
      let is : report_of s ≡ refused k = sym (enough_volumes 128 s (lit≤ tt)) ∙ then_refused (report_into 128 s) summary k e in
      rw is

  -- the head of the list is the report's
  abbrev shown_of : Summary → List ℤ → Report
  shown_of z volumes = record { volumes = take z.cells volumes; total = z.total; first = z.first }

  pub record Found (z : Summary) (volumes : List ℤ) : Type 0 where
    pub text : report_text (shown_of z volumes) ≡ printed s
    pub most : length (report_text (shown_of z volumes)) ≤ 3244

  pub found : (z : Summary) (old volumes : List ℤ) → z.first < 2 ^ 32 → answered z ≡ summary_of (report_into 128 s)
      → volumes ≡ left (volumes_in (report_into 128 s)) old → Found z volumes
  unfolding printed
  found z old volumes small told output =
      let result = then_answered (report_into 128 s) (λ (r : Report). answered (summary r)) _ (sym told) in
      let r = result.value in
      let same : summary r ≡ z = answered_same result.next in
      let is : report_of s ≡ answered r = sym (enough_volumes 128 s (lit≤ tt)) ∙ result.is in
      let list : volumes ≡ r.volumes ++ drop (length r.volumes) old = rw result.is at output in
      let head : take z.cells volumes ≡ r.volumes = ap (take z.cells) list ∙ take_at r.volumes _ z.cells (ap (λ (z : Summary). z.cells) same) in
      let first : r.first ≡ z.first = ap (λ (z : Summary). z.first) same in
      let text = same_text (shown_of z volumes) r head (sym (ap (λ (z : Summary). z.total) same)) (sym first) in
      record { text = text ∙ rw is; most = rw text (report_most r (report_fits s r is) (omega (arith, first, small))) }

pub enough_to_print : EnoughToPrint
unfolding printed report_of
enough_to_print s = rw (enough_to_tell s)
