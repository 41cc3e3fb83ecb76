use Rattle.blocks.specs.Blocks.{row}
use Rattle.blocks.proofs.row_at.Goals as goal

pub returns : goal.returns
unfolding row
returns c = c.word.ensures
