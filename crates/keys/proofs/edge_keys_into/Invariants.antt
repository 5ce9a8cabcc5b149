-- `keys::edge_keys_into` meets its contract: the keys stored are those of the edges passed. Assumes nothing.
use Rattle.numbers.proofs.Stored.{Stores}
use Rattle.keys.specs.Keys.{edge_key}
use Rattle.keys.proofs.edge_keys_into.Given as goal

abbrev pub invariant-loop-j : goal.invariant-loop-j
invariant-loop-j l = Stores (edge_key l.cells) l.j-end l.initial.keys l.keys l.j
