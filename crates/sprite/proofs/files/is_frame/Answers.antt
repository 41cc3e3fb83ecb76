use Rattle.spec.proofs.Cases.{cases}
use Rattle.sprite.specs.Files.{is_frame}
use Rattle.sprite.proofs.files.is_frame.Goals as goal

pub returns-then-s-at : goal.returns-then-s-at
unfolding is_frame
returns-then-s-at c = search cases

pub returns-then-word-eq0 : goal.returns-then-word-eq0
unfolding is_frame
returns-then-word-eq0 c = rw (← c.word.ensures, ← c.word-then-word-eq0.ensures) (search cases)

pub returns-else-word-eq0 : goal.returns-else-word-eq0
unfolding is_frame
returns-else-word-eq0 c = rw (← c.word.ensures) (search cases)
