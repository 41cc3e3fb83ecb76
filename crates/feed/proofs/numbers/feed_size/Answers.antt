use Rattle.spec.specs.Feeds.{size_numbers, feed_size}
use Rattle.feed.proofs.Standing.{bad-read, value-read, number-got}
use Rattle.feed.proofs.numbers.feed_size.Goals as goal

pub size_by-requires : goal.size_by-requires
size_by-requires c = ((number-got _ _ c.in-Ok.ensures).small, (number-got _ _ c.in-Ok-varint_at.ensures).small)

pub returns-in-Err : goal.returns-in-Err
unfolding feed_size size_numbers
returns-in-Err c = rw (bad-read _ _ _ c.in-Err.ensures) c.no_size.ensures

pub returns-in-Err-varint_at : goal.returns-in-Err-varint_at
unfolding feed_size size_numbers
returns-in-Err-varint_at c = rw (value-read _ _ c.in-Ok.ensures, bad-read _ _ _ c.in-Err-varint_at.ensures) c.no_size-in-Err-varint_at.ensures

pub returns-in-Ok-varint_at : goal.returns-in-Ok-varint_at
unfolding feed_size size_numbers
returns-in-Ok-varint_at c = rw (value-read _ _ c.in-Ok.ensures, value-read _ _ c.in-Ok-varint_at.ensures) c.size_by.ensures
