use Rattle.blocks.specs.Blocks.{row_of, pixels}
use Rattle.smc_writer.proofs.rows.first_of.Goals as goal

pub returns : goal.returns
unfolding pixels row_of
returns c = rw c.to_le_bytes.ensures
