use Rattle.blocks.specs.Blocks.{pixels}
use Rattle.blocks.proofs.Rows.of_colour.Goals as goal

pub returns : goal.returns
unfolding pixels
returns c = rw c.word-w.ensures
