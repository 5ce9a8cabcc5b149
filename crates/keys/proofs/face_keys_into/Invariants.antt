-- `keys::face_keys_into` meets its contract: what is stored are the keys of the faces passed, and the nodes opposite the smallest ones. Assumes nothing.
use Rattle.numbers.proofs.Stored.{Stores}
use Rattle.keys.specs.Keys.{face_key, face_ring}
use Rattle.keys.proofs.face_keys_into.Given as goal

abbrev pub invariant-loop-j : goal.invariant-loop-j
invariant-loop-j l =
    Stores (face_key l.cells) l.j-end l.initial.faces.keys l.faces.keys l.j
    × Stores (face_ring l.cells) l.j-end l.initial.faces.rings l.faces.rings l.j
