-- The worked examples of document 01 that are marked P, and those of document 02's requests, each on the definition that the contracts cite.
-- Definitions and the claim only.
use Rattle.std.specs.Prelude.{ℕ, ◌+◌, ◌*◌, ◌≡◌, Bool, true, false, cond, List, [], ◌∷◌, ◌++◌, map, eqb, Float, ℤ, pos, negsuc, neg_ℤ, set, get_or}
use Rattle.std.specs.Float.{binary64}
use Rattle.std.specs.Float.Ieee.{of_bits}
use Rattle.numbers.specs.Rule.{tabulate, grid}
use Rattle.binary64.specs.Binary64.{f0, f1, m1}
use Rattle.answer.specs.Answer.{Answer, answered, refused, left}
use Rattle.hexahedron.specs.Cube.{upper}
use Rattle.hex_shape.specs.Shape as Hex
use Rattle.prism_shape.specs.Shape as Prism
use Rattle.hex_iso_mask.specs.Cut.{mask_of, iso_mask}
use Rattle.hex_iso_position.specs.Position.{iso_position}
use Rattle.probe.specs.Check.{checked}
use Rattle.descendant.specs.Place.{descended}
use Rattle.integers.specs.Sums.{sum_to}
use Rattle.exact_volume.specs.Volume.{volume216}
use Rattle.metal.specs.Metal.{child_axis, child_volume}
use Rattle.hxm.specs.Format.{file_of}
use Rattle.hxm_write.specs.Writes.{mesh_of_lists, file_into, length_of}
use Rattle.numbering.specs.Refinement.{same_nodes, same_ring, next_by}
use Rattle.refine.specs.Refine.{refined}
use Rattle.metal_mesh.specs.Mesh.{stands_at, children_hold, cells_hold}
use Rattle.volume_lines.specs.Lines.{printed}
use Rattle.worked_examples.specs.IsoEdge.{iso_edge}

-- what an entry answers: floats, a whole number, a place in whole numbers, an acceptance, or the bytes of a file; or what a lent buffer holds then; or what a
-- definition decides, or its whole number or numbers, or its numbers at all places
pub data Said : Type 0 where
  floats : Answer (List Float) → Said
  number : Answer ℕ → Said
  place : Answer (List ℤ) → Said
  verdict : Answer (Unit {0}) → Said
  file : Answer (List ℕ) → Said
  buffer : List ℕ → Said
  decided : Bool → Said
  whole : ℤ → Said
  wholes : List ℤ → Said
  table : List ℕ → Said

-- which example it is: the P number of document 01, or the number of document 02's request
pub data Source : Type 0 where
  P : ℕ → Source
  request : ℕ → Source

-- what the definition gives, and what the paper says
pub record Example : Type 0 where
  pub source : Source
  pub found : Said
  pub paper : Said

abbrev example : ℕ → Said → Said → Example
example n a b = record { source = P n; found = a; paper = b }

abbrev requested : ℕ → Said → Said → Example
requested n a b = record { source = request n; found = a; paper = b }

-- one at place k of n, plus zero elsewhere
abbrev one_at : ℕ → ℕ → List Float
one_at n k = tabulate n (λ (j : ℕ). cond (eqb j k) f1 f0)

-- 3 and -0.5
abbrev three : Float
three = of_bits binary64 0x4008_0000_0000_0000

abbrev minus_half : Float
minus_half = of_bits binary64 0xbfe0_0000_0000_0000

-- 2, -2, 0.5, 1 + 2^-52, 2^100, 2^-101 and minus zero
abbrev two : Float
two = of_bits binary64 0x4000_0000_0000_0000

abbrev minus_two : Float
minus_two = of_bits binary64 0xc000_0000_0000_0000

abbrev half : Float
half = of_bits binary64 0x3fe0_0000_0000_0000

abbrev past_one : Float
past_one = of_bits binary64 0x3ff0_0000_0000_0001

abbrev most : Float
most = of_bits binary64 0x4630_0000_0000_0000

abbrev too_small : Float
too_small = of_bits binary64 0x39a0_0000_0000_0000

abbrev minus_zero : Float
minus_zero = of_bits binary64 0x8000_0000_0000_0000

-- the cube [-2,2], and the same with another first coordinate of corner 0
abbrev cube : List Float
cube = grid 8 3 (λ (k i : ℕ). cond (upper k i) two minus_two)

abbrev cube_with : Float → List Float
cube_with x = set cube 0 x

abbrev at : Float → List Float
at x = x ∷ f0 ∷ f0 ∷ []

abbrev accepted : Said
accepted = verdict (answered tt)

-- `n` numbers, all the same
abbrev many : ℕ → ℕ → List ℕ
many n x = tabulate n (λ (k : ℕ). x)

-- a signalling NaN, minus zero, zero
abbrev odd_node : List ℕ
odd_node = 0x7ff0_0000_0000_0001 ∷ 0x8000_0000_0000_0000 ∷ 0 ∷ []

-- eight nodes at zero and the cell 0..7: in a buffer of so many bytes, and the bytes of its file, which is crates/hexkids/stdin
abbrev sample_into : ℕ → Answer (List ℕ)
sample_into room = file_into room (many 24 0) (tabulate 8 (λ (k : ℕ). k))

abbrev sample : List ℕ
sample =
    0x48 ∷ 0x58 ∷ 0x4d ∷ 1 ∷ 0 ∷ 8 ∷ 0 ∷ 0 ∷ 0 ∷ 1 ∷ 0 ∷ 0 ∷ 0 ∷ many 192 0
    ++ (0 ∷ 0 ∷ 0 ∷ 0 ∷ 1 ∷ 0 ∷ 0 ∷ 0 ∷ 2 ∷ 0 ∷ 0 ∷ 0 ∷ 3 ∷ 0 ∷ 0 ∷ 0 ∷ 4 ∷ 0 ∷ 0 ∷ 0 ∷ 5 ∷ 0 ∷ 0 ∷ 0 ∷ 6 ∷ 0 ∷ 0 ∷ 0 ∷ 7 ∷ 0 ∷ 0 ∷ 0 ∷ [])

-- the cell 0..7 and another one
abbrev besides : List ℕ → List ℕ
besides cell = tabulate 8 (λ (k : ℕ). k) ++ cell

abbrev pub glued : List ℕ
glued = besides (1 ∷ 8 ∷ 9 ∷ 2 ∷ 5 ∷ 11 ∷ 10 ∷ 6 ∷ [])

-- face 4 of the second cell runs 5, 1, 6, 2
abbrev spoiled : List ℕ
spoiled = besides (1 ∷ 8 ∷ 9 ∷ 5 ∷ 6 ∷ 11 ∷ 10 ∷ 2 ∷ [])

-- the corners of a box at zero on axis i; and the cell's corner 6 drawn onto corner 0
abbrev pub side : ℕ → ℕ → ℕ → ℤ
side i long k = cond (upper k i) (pos long) (pos 0)

abbrev drawn : ℕ → ℕ → ℤ
drawn i k = cond (eqb k 6) (side i 1 0) (side i 1 k)

-- the demo's block, axis by axis
abbrev along : List ℕ → ℕ → ℤ
along x k = pos (get_or x k 0)

abbrev block : ℤ
block =
    volume216 (along (0 ∷ 4 ∷ 5 ∷ 0 ∷ 0 ∷ 4 ∷ 5 ∷ 0 ∷ [])) (along (0 ∷ 0 ∷ 3 ∷ 3 ∷ 0 ∷ 1 ∷ 4 ∷ 3 ∷ [])) (along (0 ∷ 0 ∷ 0 ∷ 1 ∷ 6 ∷ 6 ∷ 7 ∷ 6 ∷ []))

-- what a cell holds, whose corner k stands at x i k on axis i; then its children together, and each
abbrev pub held : (ℕ → ℕ → ℤ) → Said
held x = wholes (volume216 (x 0) (x 1) (x 2) ∷ sum_to 8 (child_volume (x 0) (x 1) (x 2)) ∷ tabulate 8 (child_volume (x 0) (x 1) (x 2)))

-- the cube [0,2]^3 with corner 6 at (3,3,3), and with corners 0 and 6 exchanged; a cell with all its corners on z = 0
abbrev pub bent : ℕ → ℕ → ℤ
bent i k = cond (eqb k 6) (pos 3) (side i 2 k)

abbrev pub folded : ℕ → ℕ → ℤ
folded i k = side i 2 (cond (eqb k 0) 6 (cond (eqb k 6) 0 k))

abbrev pub flat : ℕ → ℕ → ℤ
flat i k = cond (eqb i 2) (pos 0) (bent i k)

-- the number n below zero, and n of a number
abbrev less : ℕ → ℤ
less n = neg_ℤ (pos n)

abbrev times : ℕ → ℤ → List ℤ
times n v = tabulate n (λ (k : ℕ). v)

-- twelve nodes of two cells that share a face
abbrev pub crooked : ℕ → ℕ → ℤ
crooked i k =
    get_or
    (less 5 ∷ less 4 ∷ less 4 ∷ pos 0 ∷ less 3 ∷ pos 5 ∷ less 1 ∷ less 1 ∷ pos 4 ∷ less 2 ∷ pos 4 ∷ less 5
    ∷ pos 4 ∷ pos 5 ∷ less 3 ∷ pos 1 ∷ pos 5 ∷ pos 1 ∷ pos 3 ∷ pos 0 ∷ pos 3 ∷ pos 2 ∷ pos 3 ∷ less 1
    ∷ less 5 ∷ less 5 ∷ pos 0 ∷ pos 2 ∷ pos 0 ∷ pos 1 ∷ pos 1 ∷ pos 3 ∷ less 3 ∷ pos 3 ∷ less 3 ∷ less 2 ∷ [])
    (3 * k + i) (pos 0)

-- the file of the cube [0,2]^3, which is crates/hexvol/stdin: its upper sides are at 0x4000_0000_0000_0000
abbrev cube_file : List ℕ
cube_file =
    file_of (mesh_of_lists (grid 8 3 (λ (k i : ℕ). cond (upper k i) 0x4000_0000_0000_0000 0)) (tabulate 8 (λ (k : ℕ). k)))

abbrev pub earlier : List Example
earlier =
    -- "P1 Hex shape at (1,1,1): 1 at node 6, +0 elsewhere. P2 Prism at (0,0,1): 1 at node 3."
    example 1 (floats (answered (Hex.shape (f1 ∷ f1 ∷ f1 ∷ [])))) (floats (answered (one_at 8 6)))
    ∷ example 2 (floats (answered (Prism.shape (f0 ∷ f0 ∷ f1 ∷ [])))) (floats (answered (one_at 6 3)))
    -- "P3 `ISO_EDGE` at 1 is 0x109; P4 at 17 is 0x99; P5 at 255 is 0."
    ∷ example 3 (number (iso_mask 1)) (number (answered 0x109))
    ∷ example 4 (number (iso_mask 17)) (number (answered 0x99))
    ∷ example 5 (number (iso_mask 255)) (number (answered 0))
    -- "P6 Cube [-2,2]: coordinate (0.5,0,0) with T = 1 accepted; P7 T = 0.5 gives 6. P8 First coordinate 1 + 2^-52 gives 5. P9 Corner
    -- 2^100 passes 3, and P10 2^-101 gives 3; minus zero passes", as a corner and as a tolerance.
    ∷ example 6 (verdict (checked cube (at half) f1)) accepted
    ∷ example 7 (verdict (checked cube (at half) half)) (verdict (refused 6))
    ∷ example 8 (verdict (checked cube (at past_one) f1)) (verdict (refused 5))
    ∷ example 9 (verdict (checked (cube_with most) (at f0) most)) accepted
    ∷ example 10 (verdict (checked (cube_with too_small) (at f0) f1)) (verdict (refused 3))
    ∷ example 10 (verdict (checked (cube_with minus_zero) (at f0) f1)) accepted
    ∷ example 10 (verdict (checked cube (at f0) minus_zero)) accepted
    -- "P11 Edge position, centre 0, half width 1, nodes 0 and 1, values -1 and 3: (-0.5, -1, -1)."
    ∷ example 11 (floats (iso_position (f0 ∷ f0 ∷ f0 ∷ []) f1 0 1 m1 three)) (floats (answered (minus_half ∷ m1 ∷ m1 ∷ [])))
    -- "P12 Path (6), corner 0: (0,0,0). Path empty, corner 1: (1,-1,-1)."
    ∷ example 12 (place (descended (6 ∷ []) 0)) (place (answered (pos 0 ∷ pos 0 ∷ pos 0 ∷ [])))
    ∷ example 12 (place (descended [] 1)) (place (answered (pos 1 ∷ negsuc 0 ∷ negsuc 0 ∷ [])))
    -- 1/12: no node and no cell are a file of 13 bytes; in room for 12 it is refused by 8
    ∷ requested 1 (file (file_into 13 [] [])) (file (answered (0x48 ∷ 0x58 ∷ 0x4d ∷ 1 ∷ many 9 0)))
    ∷ requested 1 (file (file_into 12 [] [])) (file (refused 8))
    -- one node, each float by its bits
    ∷ requested 1 (file (file_into 37 odd_node []))
    (file (answered (0x48 ∷ 0x58 ∷ 0x4d ∷ 1 ∷ 0 ∷ 1 ∷ many 7 0 ++ (1 ∷ many 5 0 ++ (0xf0 ∷ 0x7f ∷ many 7 0 ++ (0x80 ∷ many 8 0))))))
    -- one cell into 240 bytes that held 7: its length, and the last three bytes are as they were; into 236 bytes
    ∷ requested 1 (number (length_of (sample_into 240))) (number (answered 237))
    ∷ requested 1 (buffer (left (sample_into 240) (many 240 7))) (buffer (sample ++ many 3 7))
    ∷ requested 1 (file (sample_into 236)) (file (refused 8))
    -- 2/12: 1, 2, 6, 5 and 6, 2, 1, 5 are one ring; 1, 2, 6, 5 and 1, 6, 2, 5 have the same nodes and are not
    ∷ requested 2 (decided (same_ring (1 ∷ 2 ∷ 6 ∷ 5 ∷ []) (6 ∷ 2 ∷ 1 ∷ 5 ∷ []))) (decided true)
    ∷ requested 2 (decided (same_ring (1 ∷ 2 ∷ 6 ∷ 5 ∷ []) (1 ∷ 6 ∷ 2 ∷ 5 ∷ []))) (decided false)
    ∷ requested 2 (decided (same_nodes (1 ∷ 2 ∷ 6 ∷ 5 ∷ []) (1 ∷ 6 ∷ 2 ∷ 5 ∷ []))) (decided true)
    -- two cells that share a face have the next free number that they had; with its ring spoiled, where document 01's rule had two edges more, they are
    -- refused, but for want of room first
    ∷ requested 2 (number (refined 12 glued 128)) (number (answered 45))
    ∷ requested 2 (number (answered (next_by same_nodes 12 spoiled))) (number (answered 47))
    ∷ requested 2 (number (refined 12 spoiled 128)) (number (refused 14))
    ∷ requested 2 (number (refined 12 spoiled 127)) (number (refused 8))
    -- 3/12: the cube [0,2]^3 prints `0 1728`, `total 1728`, `first none`; the box 1 by 2 by 3; the unit cube with corner 6 drawn onto corner 0; the block
    ∷ requested 3 (file (answered (printed cube_file)))
    (file (answered (48 ∷ 32 ∷ 49 ∷ 55 ∷ 50 ∷ 56 ∷ 10 ∷ 116 ∷ 111 ∷ 116 ∷ 97 ∷ 108 ∷ 32 ∷ 49 ∷ 55 ∷ 50 ∷ 56 ∷ 10
    ∷ 102 ∷ 105 ∷ 114 ∷ 115 ∷ 116 ∷ 32 ∷ 110 ∷ 111 ∷ 110 ∷ 101 ∷ 10 ∷ [])))
    ∷ requested 3 (whole (volume216 (side 0 1) (side 1 2) (side 2 3))) (whole (pos 1296))
    ∷ requested 3 (whole (volume216 (drawn 0) (drawn 1) (drawn 2))) (whole (pos 54))
    ∷ requested 3 (whole block) (whole (pos 16920))
    -- 4/12: the masks worked out, and the table that they were in
    ∷ requested 4 (table (tabulate 256 mask_of)) (table iso_edge)
    ∷ []

abbrev pub metal : List Example
metal =
    -- 5/12: the cube [0,2]^3, its children together and each; with corner 6 at (3,3,3); and where child 6 of this one stands
    requested 5 (held (λ (i : ℕ). side i 2)) (wholes (pos 1728 ∷ pos 884736 ∷ times 8 (pos 110592)))
    ∷ requested 5 (held bent)
    (wholes (pos 2376 ∷ pos 1216512
    ∷ pos 120960 ∷ pos 134784 ∷ pos 162432 ∷ pos 134784 ∷ pos 134784 ∷ pos 162432 ∷ pos 203904 ∷ pos 162432 ∷ []))
    ∷ requested 5 (wholes (grid 8 3 (λ (k i : ℕ). child_axis (bent i) 6 k)))
    (wholes (pos 9 ∷ pos 9 ∷ pos 9 ∷ pos 18 ∷ pos 10 ∷ pos 10 ∷ pos 20 ∷ pos 20 ∷ pos 12 ∷ pos 10 ∷ pos 18 ∷ pos 10
    ∷ pos 10 ∷ pos 10 ∷ pos 18 ∷ pos 20 ∷ pos 12 ∷ pos 20 ∷ pos 24 ∷ pos 24 ∷ pos 24 ∷ pos 12 ∷ pos 20 ∷ pos 20 ∷ []))
    -- folded, with corners 0 and 6 exchanged; flat; and of side 2,048
    ∷ requested 5 (held folded)
    (wholes (less 864 ∷ less 442368 ∷ less 96768 ∷ times 5 (less 41472) ++ (less 96768 ∷ less 41472 ∷ [])))
    ∷ requested 5 (held flat) (wholes (times 10 (pos 0)))
    ∷ requested 5 (held (λ (i : ℕ). side i 2048)) (wholes (pos 1855425871872 ∷ pos 949978046398464 ∷ times 8 (pos 118747255799808)))
    -- two cells that share a face, and their sixteen children; the middle of that face, number 26, at twice the sum of nodes 1, 2, 6 and 5; no cells
    ∷ requested 5
    (wholes (cells_hold (crooked 0) (crooked 1) (crooked 2) glued ∷ children_hold (crooked 0) (crooked 1) (crooked 2) 12 glued ∷ []))
    (wholes (less 5724 ∷ less 2930688 ∷ []))
    ∷ requested 5 (wholes (tabulate 3 (λ (i : ℕ). stands_at (crooked i) 12 glued 26))) (wholes (pos 6 ∷ pos 2 ∷ pos 26 ∷ []))
    ∷ requested 5
    (wholes (cells_hold (crooked 0) (crooked 1) (crooked 2) [] ∷ children_hold (crooked 0) (crooked 1) (crooked 2) 12 [] ∷ []))
    (wholes (times 2 (pos 0)))
    ∷ []

abbrev pub examples : List Example
examples = earlier ++ metal

-- "The P examples are one list with a single proved claim on the definitions"
abbrev pub ExamplesHold : Type 0
ExamplesHold = map (λ (e : Example). e.found) examples ≡ map (λ (e : Example). e.paper) examples
