-- `buffer::Little::store` meets its contract: what is put is stored where there is room for it. Assumes nothing.
use Rattle.buffer.proofs.Writing.{number_left, number_written}
use Rattle.buffer.proofs.Little.store.Goals as goal

pub returns-clause-no_room : goal.returns-clause-no_room
returns-clause-no_room g c = number_left _ _ c.put.ensures

pub returns-clause-written : goal.returns-clause-written
returns-clause-written g c = number_written _ _ c.put.ensures
