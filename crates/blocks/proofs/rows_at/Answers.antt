use Rattle.blocks.specs.Blocks.{pixels, rows}
use Rattle.blocks.proofs.rows_at.Goals as goal

pub returns : goal.returns
unfolding pixels rows
returns c = rw (c.row_at-a.ensures, c.row_at-b.ensures, c.row_at-c.ensures, c.row_at-d.ensures)
