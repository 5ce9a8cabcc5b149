-- `iso_table::iso_edge` meets its contract: the code's table is the list, whose entries are the masks. Assumes nothing.
use Rattle.iso_table.specs.Table.{iso_edge}
use Rattle.iso_table.proofs.Table.{table_of_masks}
use Rattle.iso_table.proofs.iso_edge.Goals as goal

pub returns : goal.returns
unfolding iso_edge
returns c = table_of_masks.masks c.args.cubeindex c.requires
