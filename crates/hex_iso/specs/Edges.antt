-- What each edge of a cube holds: where the surface of value zero cuts it. Definitions only.
use Rattle.std.specs.Prelude.{ℕ, Bool, cond, List, Float}
use Rattle.numbers.specs.Rule.{grid}
use Rattle.binary64.specs.Binary64.{◌!◌, infinity}
use Rattle.cell.specs.Edges.{end}
use Rattle.hexahedron.specs.Cube.{edges}
use Rattle.hex_iso_mask.specs.Cut.{sign_index, cut, mask_of}
use Rattle.hex_iso_position.specs.declared.End.{End}
use Rattle.hex_iso_position.specs.Position.{sign, position_on}
use Rattle.hex_iso.specs.declared.IsoEdges.{IsoEdges}

-- axis i of what an edge holds: its position if it is cut; "Uncut edges hold three plus infinities."
abbrev pub held_on : Bool → List Float → Float → List Float → List Float → Float → Float → ℕ → Float
held_on is_cut center half_width s t v w i = cond is_cut (position_on center half_width s t v w i) infinity

-- of the edge between two ends
abbrev pub held_between : Bool → List Float → Float → End → End → ℕ → Float
held_between is_cut center half_width a b = held_on is_cut center half_width a.sign b.sign a.value b.value

-- corner k as an end of an edge, of a cube with these corner values
abbrev pub end_on : List Float → ℕ → End
end_on value k = record { sign = sign k; value = value ! k }

-- of edge e of a cube with these corner values
unfoldable pub edge_on : List Float → Float → List Float → ℕ → ℕ → Float
edge_on center half_width value e =
    held_between (cut (sign_index value) e) center half_width (end_on value (end edges e 0)) (end_on value (end edges e 1))

-- "the sign index and the twelve edge positions", with the mask of the cut edges between them
abbrev pub iso_edges : List Float → Float → List Float → IsoEdges
iso_edges center half_width value =
    record {
      index = sign_index value;
      mask = mask_of (sign_index value);
      positions = grid 12 3 (edge_on center half_width value);
    }
