use Rattle.blocks.specs.Blocks.{row_of}
use Rattle.smc.proofs.put.put_row.Goals as goal

pub returns : goal.returns
unfolding row_of
returns c = rw c.to_le_bytes.ensures at c.put_four.ensures
