use Rattle.spec.specs.Basics.{if}
use Rattle.spec.proofs.Cases.{cases}
use Rattle.feed.proofs.numbers.last_group.Goals as goal

pub returns-then-is_padding : goal.returns-then-is_padding
unfolding if
returns-then-is_padding c = rw (← c.is_padding.ensures, c.if-is_padding.true)

pub returns-then-value-gt-MAX : goal.returns-then-value-gt-MAX
unfolding if
returns-then-value-gt-MAX c = rw (← c.is_padding.ensures, c.if-is_padding.false) (search cases)

pub returns : goal.returns
unfolding if
returns c = rw (← c.is_padding.ensures, c.if-is_padding.false) (search cases)
