-- The worked examples hold: both sides compute to the same list. Assumes nothing.
use Prim.Native.Nat.{ℕ}
use mathlib.Core.Path.{◌≡◌, refl, ◌∙◌, ap, ap₂}
use mathlib.Core.List.{List, [], ◌∷◌, ◌++◌, map}
use lib.IntN.{ℤ, pos, neg_ℤ, ◌*ℤ◌}
use lib.ListN.{get_or}
use lib.Ieee.{add, sub, mul, div, neg, of_bits, le, lt, eq}
use Rattle.hex_image.specs.Image.{image_at}
use Rattle.hex_iso_mask.specs.Cut.{mask_of}
use Rattle.probe.specs.Check.{good_corners, checked}
use Rattle.numbers.specs.Little.{bytes, all_bytes}
use Rattle.faults.specs.Faults.{fault_at, first_to}
use Rattle.descendant.specs.Place.{sign, place, descended}
use Rattle.hxm_write.specs.Writes.{file_for, file_into}
use Rattle.numbers.specs.FirstMet.{meet}
use Rattle.numbering.specs.Refinement.{chain, twisted, given_by}
use Rattle.refine.specs.Refine.{refined}
use Rattle.binary64.specs.Exact.{size_in, is_negative}
use Rattle.grid_number.specs.Grid.{grid_number}
use Rattle.answer.specs.Answer.{answered, each}
use Rattle.buffer.specs.Put.{joined}
use Rattle.text.specs.Text.{decimal_in}
use Rattle.numbers.specs.Little.{little, number_at}
use Rattle.hxm.specs.Format.{mesh_at, mesh_of, fault_of}
use Rattle.numbers.specs.Rule.{tabulate}
use Rattle.numbers.proofs.Prefix.{tabulate_where}
use Rattle.integers.specs.Integers.{integers}
use Rattle.exact_volume.specs.Volume.{volume216}
use Rattle.exact_volume.specs.Determinants.{by_determinants}
use Rattle.exact_volume.proofs.Determinants.{three_determinants}
use Rattle.metal.specs.Metal.{child_axis, child_volume}
use Rattle.metal.proofs.Metal.{children_keep_the_metal}
use Rattle.metal_mesh.specs.Mesh.{stands_at, children_hold, cells_hold}
use Rattle.metal_mesh.proofs.Mesh.{mesh_keeps_the_metal}
use Rattle.volume_report.specs.Report.{grid_numbers, cell_volume, report_of}
use Rattle.volume_lines.specs.Lines.{printed}
use Rattle.worked_examples.specs.Examples.{Said, wholes, Example, earlier, metal, held, side, bent, folded, flat, crooked, glued, ExamplesHold}

-- what a definition gives
abbrev found : Example → Said
found e = e.found

abbrev paper : Example → Said
paper e = e.paper

earlier_hold : map found earlier ≡ map paper earlier
unfolding add sub mul div neg of_bits le lt eq mask_of image_at good_corners checked sign place descended bytes all_bytes fault_at first_to file_for file_into meet chain
    twisted given_by refined size_in is_negative grid_number each joined decimal_in little number_at mesh_at mesh_of fault_of volume216 grid_numbers cell_volume report_of
    printed
earlier_hold = refl

-- the children together by their law, and each by its three determinants, which take fewer steps than the polynomials
abbrev volume_by : (x y z : ℕ → ℤ) → ℤ
volume_by x y z = by_determinants integers pos x y z

abbrev held_by : (ℕ → ℕ → ℤ) → Said
held_by x =
    wholes (volume_by (x 0) (x 1) (x 2) ∷ (pos 512 *ℤ volume_by (x 0) (x 1) (x 2))
    ∷ tabulate 8 (λ (i : ℕ). volume_by (child_axis (x 0) i) (child_axis (x 1) i) (child_axis (x 2) i)))

held_by_lem : (x : ℕ → ℕ → ℤ) → held x ≡ held_by x
held_by_lem x =
    let whole = three_determinants (x 0) (x 1) (x 2) in
    let together = children_keep_the_metal.times512 (x 0) (x 1) (x 2) ∙ ap (λ (v : ℤ). pos 512 *ℤ v) whole in
    let each = tabulate_where 8 (child_volume (x 0) (x 1) (x 2)) _ (λ i h. three_determinants (child_axis (x 0) i) (child_axis (x 1) i) (child_axis (x 2) i)) in
    λ j. wholes (whole j ∷ together j ∷ each j)

accepted : refined 12 glued 128 ≡ answered 45
unfolding fault_at first_to meet chain twisted given_by refined
accepted = refl

cells_held : cells_hold (crooked 0) (crooked 1) (crooked 2) glued ≡ neg_ℤ (pos 5724)
unfolding volume216
cells_held = refl

children_held : children_hold (crooked 0) (crooked 1) (crooked 2) 12 glued ≡ neg_ℤ (pos 2930688)
children_held = mesh_keeps_the_metal (crooked 0) (crooked 1) (crooked 2) 12 glued 128 45 accepted ∙ ap (λ (v : ℤ). pos 512 *ℤ v) cells_held

middle_stands : tabulate 3 (λ (i : ℕ). stands_at (crooked i) 12 glued 26) ≡ pos 6 ∷ pos 2 ∷ pos 26 ∷ []
unfolding meet chain given_by
middle_stands = refl

-- entry k of the list: the facts are proved one by one, since each takes its steps
abbrev Holds : ℕ → Type 0
Holds k = get_or (map found metal) k (wholes []) ≡ get_or (map paper metal) k (wholes [])

cube_held : Holds 0
cube_held = held_by_lem (λ (i : ℕ). side i 2)

bent_held : Holds 1
bent_held = held_by_lem bent

bent_stands : Holds 2
bent_stands = refl

folded_held : Holds 3
folded_held = held_by_lem folded

flat_held : Holds 4
flat_held = held_by_lem flat

largest_held : Holds 5
largest_held = held_by_lem (λ (i : ℕ). side i 2048)

glued_held : Holds 6
glued_held = λ j. wholes (cells_held j ∷ children_held j ∷ [])

glued_stands : Holds 7
glued_stands = λ j. wholes (middle_stands j)

metal_hold : map found metal ≡ map paper metal
metal_hold = λ j.
    cube_held j ∷ bent_held j ∷ bent_stands j ∷ folded_held j ∷ flat_held j ∷ largest_held j ∷ glued_held j ∷ glued_stands j ∷ wholes (pos 0 ∷ pos 0 ∷ []) ∷ []

pub examples_hold : ExamplesHold
examples_hold = ap₂ (λ (xs ys : List Said). xs ++ ys) earlier_hold metal_hold
