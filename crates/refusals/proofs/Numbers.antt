-- Each entry's ladder has just these numbers: a rung refuses by one of them, and so does what follows. Assumes nothing.
use Prim.Native.Nat.{ℕ, zero, suc}
use mathlib.Core.Bool.{Bool, true, false, not, cond}
use mathlib.Core.List.{List, [], ◌∷◌}
use lib.Dec.{T, eqb}
use lib.Ieee.{Float, of_bits, binary64}
use Rattle.answer.specs.Answer.{Answer, answered, refused, is_one_of, RefusesBy}
use Rattle.answer.proofs.Answers.{refuses_unless, refuses_else, refuses_then}
use Rattle.answer.proofs.Each.{refuses_each}
use Rattle.faults.specs.Faults.{in_range, different, fault_at, first_to, node}
use Rattle.cell.proofs.Refusals.{inverse_refuses, step_refuses, locate_refuses}
use Rattle.hex_locate.proofs.Refusals.{located_refuses}
use Rattle.prism_image.specs.Image.{image_at, jacobian_at}
use Rattle.prism_locate.specs.Locate.{step, start, inside, located}
use Rattle.probe.proofs.Refusals as Probe
use Rattle.proposals.specs.Judgements.{judgements}
use Rattle.descendant.specs.Place.{descended}
use Rattle.hxm.specs.Format.{fault_of, mesh_of}
use Rattle.hxm.specs.Reads.{mesh_into}
use Rattle.hxm_write.specs.Writes as Write
use Rattle.grid_number.proofs.Small.{grid_refuses}
use Rattle.volume_report.specs.Report.{grid_numbers, room_for, report_of, report_into}
use Rattle.refine.specs.Refine.{refined}
use Rattle.refusals.specs.Numbers.{file_numbers, write_numbers, report_numbers, refine_numbers, RefusalsNumbered}

-- ---- the first fault of some cells is 0, 9 or 10
either : (P : ℕ → Type 0) (b : Bool) (x y : ℕ) → P x → P y → P (cond b x y)
either P true x y one other = one
either P false x y one other = other

first_one_of : (P : ℕ → Type 0) → P 0 → P 9 → P 10 → (n k : ℕ) (cells : List ℕ) (c : ℕ) → P (first_to n k cells c)
unfolding first_to fault_at
first_one_of P none nine ten n k cells zero = none
first_one_of P none nine ten n k cells (suc c) =
    either P (eqb (first_to n k cells c) 0) _ (first_to n k cells c)
    (either P (in_range n k (node k cells c)) _ 9 (either P (different k (node k cells c)) 0 10 none ten) nine)
    (first_one_of P none nine ten n k cells c)

-- so a ladder with 9 and 10 may refuse by it, where it is not 0
unless_faulty : (ns : List ℕ) → T (is_one_of ns 9) → T (is_one_of ns 10) → {A : Type 0} (rest : Answer A) (n k : ℕ) (cells : List ℕ) (c : ℕ)
    → RefusesBy ns rest → RefusesBy ns (cond (not (eqb (first_to n k cells c) 0)) (refused (first_to n k cells c)) rest)
unless_faulty ns nine ten rest n k cells c on =
    first_one_of (λ (f : ℕ). RefusesBy ns (cond (not (eqb f 0)) (refused f) rest)) on nine ten n k cells c

-- ---- one ladder after another
prism_located : (p : List Float) → RefusesBy (1 ∷ 2 ∷ []) (located p)
unfolding located step
prism_located p =
    locate_refuses (1 ∷ 2 ∷ []) (step p) start (λ q. step_refuses (1 ∷ 2 ∷ []) q (image_at p q) (jacobian_at p q) tt) inside tt

descended_refuses : (path : List ℕ) (k : ℕ) → RefusesBy (7 ∷ 9 ∷ []) (descended path k)
unfolding descended
descended_refuses path k = search (refuses_unless, refuses_else)

-- a file is refused by the reader's numbers, whatever others there are
mesh_refuses : (ns : List ℕ) → T (is_one_of ns 13) → T (is_one_of ns 11) → T (is_one_of ns 12) → T (is_one_of ns 7) → T (is_one_of ns 9) → T (is_one_of ns 10)
    → (s : List ℕ) → RefusesBy ns (mesh_of s)
unfolding mesh_of fault_of
mesh_refuses ns length_wrong mark version limit nine ten s = search (refuses_unless, unless_faulty ns nine ten) depth 7

file_refuses : (coords corners : ℕ) (s : List ℕ) → RefusesBy file_numbers (mesh_into coords corners s)
unfolding mesh_into
file_refuses coords corners s = search (refuses_unless, refuses_then, mesh_refuses file_numbers tt tt tt tt tt tt)

report_refuses : (room : ℕ) (s : List ℕ) → RefusesBy report_numbers (report_into room s)
unfolding report_into report_of grid_numbers
report_refuses room s =
    refuses_then report_numbers (report_of s) (room_for room)
    (refuses_then report_numbers (mesh_of s) _ (mesh_refuses report_numbers tt tt tt tt tt tt s) (λ m.
    refuses_then report_numbers (grid_numbers m.coords) _
    (refuses_each _ report_numbers (λ word. grid_refuses report_numbers (of_bits binary64 word) tt) m.coords) (λ numbers. tt)))
    (λ r. search refuses_unless)

written_refuses : (nodes cells : List ℕ) → RefusesBy write_numbers (Write.file_for nodes cells)
unfolding Write.file_for
written_refuses nodes cells = search (refuses_unless, unless_faulty write_numbers tt tt) depth 7

writer_refuses : (room : ℕ) (nodes cells : List ℕ) → RefusesBy write_numbers (Write.file_into room nodes cells)
unfolding Write.file_into
writer_refuses room nodes cells = search (refuses_unless, refuses_then, written_refuses)

refined_refuses : (n : ℕ) (cells : List ℕ) (room : ℕ) → RefusesBy refine_numbers (refined n cells room)
unfolding refined
refined_refuses n cells room = search (refuses_unless, unless_faulty refine_numbers tt tt) depth 8

pub refusals_numbered : RefusalsNumbered
refusals_numbered =
    record {
      of_inverse = λ m. inverse_refuses (1 ∷ []) m tt;
      of_hex_locator = λ p. located_refuses (1 ∷ 2 ∷ []) p tt tt;
      of_prism_locator = prism_located;
      of_gradient = λ p points i j k. search refuses_unless;
      of_hex_volume = λ p points. search refuses_unless;
      of_prism_volume = λ p line triangle. search refuses_unless;
      of_mask = λ index. search refuses_unless;
      of_position = λ center half_width a b v w. search refuses_unless;
      of_check = Probe.checked_refuses;
      of_locator = Probe.located_checked_refuses;
      of_proposals = λ corners list room. search (refuses_unless, refuses_then);
      of_descendant = descended_refuses;
      of_file = file_refuses;
      of_writer = writer_refuses;
      of_report = report_refuses;
      of_refinement = refined_refuses;
    }
