-- The numbers by which each entry refuses, in the order in which they are looked for. 0 is none of them, so that an entry's 0 tells an answer
-- (answer: `ZeroTellsAnAnswer`). Definitions and the claim only.
use Rattle.std.specs.Prelude.{ℕ, List, [], ◌∷◌, Float}
use Rattle.answer.specs.Answer.{RefusesBy}
use Rattle.mat3_inverse.specs.Inverse.{inverse}
use Rattle.hex_locate.specs.Locate as Hex
use Rattle.prism_locate.specs.Locate as Prism
use Rattle.hex_weighted_gradient.specs.Weighted.{weighted_gradient}
use Rattle.hex_volume.specs.Volume as HexVolume
use Rattle.prism_volume.specs.Volume as PrismVolume
use Rattle.hex_iso_mask.specs.Cut.{iso_mask}
use Rattle.hex_iso_position.specs.Position.{iso_position}
use Rattle.probe.specs.Check.{checked, located_checked}
use Rattle.proposals.specs.Judgements.{judgements, zeros_in}
use Rattle.proposals.specs.declared.Proposal.{Proposal}
use Rattle.descendant.specs.Place.{descended}
use Rattle.hxm.specs.Reads.{mesh_into}
use Rattle.hxm_write.specs.Writes.{file_into}
use Rattle.volume_report.specs.Report.{report_into}
use Rattle.refine.specs.Refine.{refined}

-- "File: 13 if under 13 bytes, 11, 12, 7, 13, then cell by cell 9, 10, last 8"
abbrev pub file_numbers : List ℕ
file_numbers = 13 ∷ 11 ∷ 12 ∷ 7 ∷ 9 ∷ 10 ∷ 8 ∷ []

-- document 02, 1/12: "Refusals: 7 .., 8 .., then cell by cell 9, 10, last 8"
abbrev pub write_numbers : List ℕ
write_numbers = 7 ∷ 8 ∷ 9 ∷ 10 ∷ []

-- document 02, 3/12: "Refusals: those of the reader but its 8 first, then 15 ..; last 8"
abbrev pub report_numbers : List ℕ
report_numbers = 13 ∷ 11 ∷ 12 ∷ 7 ∷ 9 ∷ 10 ∷ 15 ∷ 8 ∷ []

-- "Refinement: 7 .., 8 .., then cell by cell 9 before 10", and document 02, 2/12: "14, twisted face, after all cells have passed 9 and 10"
abbrev pub refine_numbers : List ℕ
refine_numbers = 7 ∷ 8 ∷ 9 ∷ 10 ∷ 14 ∷ []

-- Every entry that can refuse does so by one of these numbers, whatever it is asked. Those that are not listed refuse nothing.
pub record RefusalsNumbered : Type 0 where
  pub of_inverse : (m : List Float) → RefusesBy (1 ∷ []) (inverse m)
  pub of_hex_locator : (p : List Float) → RefusesBy (1 ∷ 2 ∷ []) (Hex.located p)
  pub of_prism_locator : (p : List Float) → RefusesBy (1 ∷ 2 ∷ []) (Prism.located p)
  pub of_gradient : (p points : List Float) (i j k : ℕ) → RefusesBy (8 ∷ 7 ∷ 9 ∷ []) (weighted_gradient p points i j k)
  pub of_hex_volume : (p points : List Float) → RefusesBy (8 ∷ 7 ∷ []) (HexVolume.volume p points)
  pub of_prism_volume : (p line triangle : List Float) → RefusesBy (8 ∷ 7 ∷ []) (PrismVolume.volume_answer p line triangle)
  pub of_mask : (index : ℕ) → RefusesBy (9 ∷ []) (iso_mask index)
  pub of_position : (center : List Float) (half_width : Float) (a b : ℕ) (v w : Float) → RefusesBy (9 ∷ []) (iso_position center half_width a b v w)
  pub of_check : (p q : List Float) (t : Float) → RefusesBy (3 ∷ 4 ∷ 5 ∷ 6 ∷ []) (checked p q t)
  pub of_locator : (p : List Float) (t : Float) → RefusesBy (3 ∷ 4 ∷ 1 ∷ 2 ∷ 6 ∷ []) (located_checked p t)
  pub of_proposals : (corners : List Float) (list : List Proposal) (room : ℕ) → RefusesBy (7 ∷ 8 ∷ []) (zeros_in (judgements corners list room))
  pub of_descendant : (path : List ℕ) (k : ℕ) → RefusesBy (7 ∷ 9 ∷ []) (descended path k)
  pub of_file : (coords corners : ℕ) (s : List ℕ) → RefusesBy file_numbers (mesh_into coords corners s)
  pub of_writer : (room : ℕ) (nodes cells : List ℕ) → RefusesBy write_numbers (file_into room nodes cells)
  pub of_report : (room : ℕ) (s : List ℕ) → RefusesBy report_numbers (report_into room s)
  pub of_refinement : (n : ℕ) (cells : List ℕ) (room : ℕ) → RefusesBy refine_numbers (refined n cells room)
