use Rattle.spec.specs.Basics.{if}
use Rattle.feed.proofs.numbers.size_by.Goals as goal

pub returns-then-is_allowed : goal.returns-then-is_allowed
unfolding if
returns-then-is_allowed c = rw (← c.is_allowed.ensures, c.if-is_allowed.true, c.accepted.ensures)

pub returns : goal.returns
unfolding if
returns c = rw (← c.is_allowed.ensures, c.if-is_allowed.false) c.no_size.ensures
