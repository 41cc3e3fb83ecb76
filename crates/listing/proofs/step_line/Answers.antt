use Rattle.spec.specs.Basics.{if}
use Rattle.spec.specs.Listing.{step_line}
use Rattle.listing.proofs.step_line.Goals as goal

pub returns-then-step : goal.returns-then-step
unfolding step_line if
returns-then-step c = rw c.if-step.true c.chunk_line.ensures

pub returns : goal.returns
unfolding step_line if
returns c = rw c.if-step.false c.end_line.ensures
